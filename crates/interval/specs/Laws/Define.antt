-- Defining a program or a terminal is what the model does: of any list of names, and then of the two. Assumes nothing.
use Rattle.std.specs.Prelude.{◌≡◌, ℕ, ◌+◌, ◌^◌, ◌<◌, ◌≤◌, Bool, true, false, List, [], ◌∷◌, ◌++◌, length, take, ◌==◌, nat_le, refl, Result, Ok, Err, is_ok}
use Rattle.std.proofs.Common.{sym, ap, ap₂, ◌∙◌, arith, length-append, leb-false}
use Rattle.base.specs.Choice.{pick}
use Rattle.base.specs.Lists.{has, over}
use Rattle.base.specs.Bytes.{blank}
use Rattle.base.specs.Laws.Tests.{by_test, no, pick_map, pick_elim}
use Rattle.base.specs.Laws.Over.{take_over}
use Rattle.model.specs.Limits.{cabinet}
use Rattle.model.specs.Plans.{Outcome, Plan, first_of, obey}
use Rattle.model.specs.Interval as model
use Rattle.model.proofs.Laws.SoundInterval.{program_sound, terminal_sound}
use Rattle.interval.specs.declared.Requests.{Requests}
use Rattle.interval.specs.declared.answers.DefineError.{DefineError}
use Rattle.interval.specs.declared.answers.DefineError.TheVariants as answers
use Rattle.interval.specs.Answers.{Defined}
use Rattle.interval.specs.Stands.{interval_at, Means, sound_r, Done}
use Rattle.interval.specs.Define.{define_gives, ruling, behind, put_programs, put_terminals, define, define_program, define_terminal}
use Rattle.interval.specs.Laws.Ties.{Small, small, finish}

-- ---- what a ruling comes to

abbrev tests : Bool → Bool → Bool → Result (Unit {0}) DefineError
tests a b c = pick a (Err answers.Invalid) (pick b (Err answers.NotUnique) (pick c (Err answers.NoSpace) (Ok tt)))

last_fails : (a b c : Bool) → is_ok (tests a b c) ≡ true → c ≡ false
last_fails true b c e = no e
last_fails false true c e = no e
last_fails false false true e = no e
last_fails false false false e = refl

pub room : (most : ℕ) (l : List ℕ) (n : ℕ) → is_ok (ruling most l n) ≡ true → length l < most
unfolding ruling
room most l n e = leb-false most (length l) (last_fails (n == blank 4) (has n l) (nat_le most (length l)) e)

ruled : (most : ℕ) (l : List ℕ) (n : ℕ) (put : List ℕ → model.Interval) (i : model.Interval)
    → ◌≡◌ {A = Outcome model.Interval}
    (record { condition = define_gives (ruling most l n); number = 0; bytes = []; state = pick (is_ok (ruling most l n)) (put (l ++ (n ∷ []))) i })
    (obey i (first_of (model.define most l n put).checks) (model.define most l n put).effect)
unfolding ruling
ruled most l n put i =
    by_test (n == blank 4) (λ e. rw e)
    (λ e. rw e (by_test (has n l) (λ f. rw f) (λ f. rw f (by_test (nat_le most (length l)) (λ g. rw g) (λ g. rw g)))))

-- ---- a list of names in t, whichever: the first `count` of its places, `most` at most

-- `put` is t with another, `put_in` the model's state with another; defining n in it comes to `answer`, and `plan` is the model's
pub record Names (t : Requests) (n most count : ℕ) (places : List ℕ) (put : ℕ → List ℕ → Requests) (answer : Defined) (plan : ℕ → Plan model.Interval) : Type 0 where
  pub put_in : ℕ → List ℕ → model.Interval
  pub answered : answer ≡ define most count places t put n
  pub planned : (c : ℕ) → plan c ≡ model.define most (take count places) n (put_in c)
  pub meant : (c k : ℕ) (l : List ℕ) → interval_at c (put k l) ≡ put_in c (take k l)
  pub means : (c k : ℕ) (l : List ℕ) → Means t c → Means (put k l) c
  pub few : (k : ℕ) (l : List ℕ) → k ≤ most → Small t → Small (put k l)
  pub sound : (c : ℕ) → model.sound_interval cabinet (interval_at c t) ≡ true → first_of (plan c).checks ≡ 0
      → model.sound_interval cabinet (plan c).effect.state ≡ true

module _ {t : Requests} {n most count : ℕ} {places : List ℕ} {put : ℕ → List ℕ → Requests} {answer : Defined} {plan : ℕ → Plan model.Interval}
    (a : Names t n most count places put answer plan) where
  abbrev known : List ℕ
  known = take count places

  abbrev more : Requests
  more = put (length (behind count places n)) (over (behind count places n) places)

  longer : length (behind count places n) ≡ length known + 1
  longer = length-append known (n ∷ [])

  abbrev pub Both : Defined → Type 0
  Both r = (r ≡ answer) × ((c : ℕ) → Means t c → sound_r t ≡ true → Done c c t r.requests (plan c) (define_gives r.outcome) 0 [])

  pub define_done : (c : ℕ) → Means t c → sound_r t ≡ true → Done c c t answer.requests (plan c) (define_gives answer.outcome) 0 []
  define_done c m s =
      let o : Result (Unit {0}) DefineError = ruling most known n in
      rw a.answered
      (finish c c t (pick (is_ok o) more t) (plan c) (define_gives o) 0 [] m s
      (ap (λ (i : model.Interval). record { condition = define_gives o; number = 0; bytes = []; state = i })
      (pick_map (interval_at c) (is_ok o) more t
      ∙ ap (λ (i : model.Interval). pick (is_ok o) i (interval_at c t)) (a.meant c _ _ ∙ ap (a.put_in c) (take_over (behind count places n) places)))
      ∙ ruled most known n (a.put_in c) (interval_at c t)
      ∙ ap (λ (x : Plan model.Interval). obey (interval_at c t) (first_of x.checks) x.effect) (sym (a.planned c)))
      (a.sound c)
      (pick_elim (λ (u : Requests). Means u c) (is_ok o) more t (λ _. a.means c _ _ m) (λ _. m))
      (pick_elim Small (is_ok o) more t (λ e. a.few _ _ (omega (arith, longer, room most known n e)) (small t s)) (λ _. small t s)))

  both : (r : Defined) → r ≡ answer → Both r
  both r e = (e, λ c m s. rw e (define_done c m s))

  -- as the code finds it: o is the ruling, and k and l are what it leaves
  pub defined : length places ≡ most → put count places ≡ t → (o : Result (Unit {0}) DefineError) → o ≡ ruling (length places) known n
      → (k : ℕ) → k ≡ pick (is_ok o) (length (behind count places n)) count → (l : List ℕ) → l ≡ pick (is_ok o) (over (behind count places n) places) places
      → Both (record { requests = put k l; outcome = o })
  defined long same o eo k ek l el =
      let ruled_so : o ≡ ruling most known n = eo ∙ ap (λ (m : ℕ). ruling m known n) long in
      let is : put k l ≡ pick (is_ok o) more t =
      by_test (is_ok o)
      (λ e.
      let ek' : k ≡ length (behind count places n) = rw e at ek in
      let el' : l ≡ over (behind count places n) places = rw e at el in
      rw e (ap₂ put ek' el'))
      (λ e.
      let ek' : k ≡ count = rw e at ek in
      let el' : l ≡ places = rw e at el in
      rw e (ap₂ put ek' el' ∙ same)) in
      both _
      (ap (λ (x : Requests). record { requests = x; outcome = o }) is
      ∙ ap (λ (x : Result (Unit {0}) DefineError). record { requests = pick (is_ok x) more t; outcome = x }) ruled_so ∙ sym a.answered)

-- ---- the two

module _ (t : Requests) (n : ℕ) (h : n < 256 ^ 4) where
  pub programs : Names t n 16 t.pcount t.programs (put_programs t) (define_program t n) (λ c. model.define_program cabinet (interval_at c t) n)
  unfolding define_program model.define_program interval_at
  programs = record {
    put_in = λ c. model.with_programs (interval_at c t);
    answered = refl;
    planned = λ c. refl;
    meant = λ c k l. refl;
    means = λ c k l m. m;
    few = λ k l f s. record { programs = f; terminals = s.terminals; requests = s.requests; shorts = s.shorts };
    sound = λ c s. program_sound cabinet (interval_at c t) s n h;
  }

  pub terminals : Names t n 8 t.tcount t.terminals (put_terminals t) (define_terminal t n) (λ c. model.define_terminal cabinet (interval_at c t) n)
  unfolding define_terminal model.define_terminal interval_at
  terminals = record {
    put_in = λ c. model.with_terminals (interval_at c t);
    answered = refl;
    planned = λ c. refl;
    meant = λ c k l. refl;
    means = λ c k l m. m;
    few = λ k l f s. record { programs = s.programs; terminals = f; requests = s.requests; shorts = s.shorts };
    sound = λ c s. terminal_sound cabinet (interval_at c t) s n h;
  }
