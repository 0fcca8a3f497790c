-- A start by its outcome's cases, by the place that the name would have and by a count of the rows: the code has a Result and an Option now, and
-- nothing cites these. Assumes nothing.
use Rattle.std.specs.Prelude.{◌≡◌, ℕ, ◌<◌, ◌^◌, min, Bool, true, [], ◌∷◌, ◌++◌, length, nat_lt, refl, Result, Ok, Err, is_ok}
use Rattle.std.proofs.Common.{sym, ap, ◌∙◌, arith, length-take}
use Rattle.base.specs.Choice.{pick}
use Rattle.base.specs.Lists.{first_at, has}
use Rattle.base.specs.Bytes.{is_bytes}
use Rattle.base.specs.Laws.Keep.{first_at_any}
use Rattle.model.specs.Interval as model
use Rattle.interval.specs.declared.Requests.{Requests}
use Rattle.interval.specs.declared.answers.StartError.{StartError}
use Rattle.interval.specs.Table.{programs_of, terminals_of, live, with_live}
use Rattle.interval.specs.Rows.{named}
use Rattle.interval.specs.Start.{ruling, ruled, new_row, started, start_in}
use Rattle.interval.proofs.Laws.Start.{StartBoth, start_both}

-- the one where it is done, and else the other
abbrev pub if_done : {A : Type 0} → Result (Unit {0}) StartError → A → A → A
if_done o a b = pick (is_ok o) a b

pub if_done_elim : {A : Type 0} (P : A → Type 0) (o : Result (Unit {0}) StartError) (a b : A) → (o ≡ Ok tt → P a) → P b → P (if_done o a b)
if_done_elim P (Ok u) a b f g = f refl
if_done_elim P (Err e) a b f g = g

pub if_done_map : {A B : Type 0} (f : A → B) (o : Result (Unit {0}) StartError) (a b : A) → f (if_done o a b) ≡ if_done o (f a) (f b)
if_done_map f (Ok u) a b = refl
if_done_map f (Err e) a b = refl

pub if_done_cong : {A : Type 0} (o : Result (Unit {0}) StartError) (a a' b : A) → (o ≡ Ok tt → a ≡ a') → if_done o a b ≡ if_done o a' b
if_done_cong (Ok u) a a' b e = e refl
if_done_cong (Err f) a a' b e = refl

module _ (t : Requests) (a : model.Asked) where
  abbrev pub more : Requests
  more = with_live t (live t ++ (new_row t.register a ∷ []))

  module _ (name : a.name < 256 ^ 8) (bytes : is_bytes a.bytes ≡ true) (o : Result (Unit {0}) StartError) (eo : o ≡ ruled t a) where
    -- another than done
    pub start_same : (x : Result (Unit {0}) StartError) → o ≡ x → if_done x more t ≡ t → StartBoth t a (record { requests = t; outcome = o })
    unfolding start_in
    start_same x e f =
        start_both t a name bytes (record { requests = t; outcome = o })
        (ap (λ (u : Requests). record { requests = u; outcome = o }) (sym (ap (λ (y : Result (Unit {0}) StartError). if_done y more t) e ∙ f))
        ∙ ap (λ (y : Result (Unit {0}) StartError). started y t more) eo)

-- what has been found out is what the ruling asks for
pub start_told : (t : Requests) (a : model.Asked) → length t.rows ≡ 32 → (p e : Bool) (i m : ℕ) → p ≡ has a.program (programs_of t)
    → e ≡ model.none_or_known a.terminal (terminals_of t) → i ≡ first_at (named a.name) (live t) → m ≡ min t.count 32
    → ruling a.name a.interval (length a.bytes) p e (nat_lt i m) m ≡ ruled t a
start_told t a long p e i m ep ee ei em =
    let k : m ≡ length (live t) = omega (arith, length-take t.count t.rows) in
    rw (ep, ee, ei, k, first_at_any (named a.name) (live t))

pub start_count : (t : Requests) → length t.rows ≡ 32 → (m : ℕ) → m ≡ min t.count 32 → m ≡ length (live t)
start_count t long m em = omega (arith, length-take t.count t.rows)
