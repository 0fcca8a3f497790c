-- The soundness check as a whole: the model's columns are the struct's, the model's rows are its live rows, and the parts make up what
-- it is to be sound. Assumes nothing.
use Rattle.std.proofs.Common.{◌≡◌, ℕ, ◌≤◌, Bool, true, not, ◌&&◌, eqb, leb, List, [], ◌∷◌, map, length, take, sym, refl, ap, ◌∙◌, arith, length-take, leb-true}
use lib.ListN.{length-map}
use Rattle.std.specs.List.{list_all}
use Rattle.base.specs.Lists.{keep, all, once}
use Rattle.base.specs.Bytes.{blank}
use Rattle.base.specs.Laws.Tests.{both, bool_ext, and_l, and_r, and_i}
use Rattle.base.specs.Laws.Keep.{all_imp, all_same}
use Rattle.base.specs.Laws.Library.{all_of}
use Rattle.base.specs.Laws.Maps.{all_map, keep_map, map-map}
use Rattle.model.specs.Limits.{cabinet}
use Rattle.model.specs.Interval as model
use Rattle.model.proofs.Laws.SoundInterval.{view, unview}
use Rattle.interval.specs.declared.Phase.{Phase}
use Rattle.interval.specs.declared.Phase.TheVariants.{Waiting, Expired, Active}
use Rattle.interval.specs.declared.Request.{Request}
use Rattle.interval.specs.declared.Requests.{Requests}
use Rattle.interval.specs.declared.sound.Column.TheVariants.{Name, Program, Terminal}
use Rattle.interval.specs.Table.{live}
use Rattle.interval.specs.Stands.{phase_at, request_at, interval_at, sound_r}
use Rattle.interval.specs.Rows.{is_active, active}
use Rattle.interval.specs.Sound.{sound_row, sound_in, column, names_fit, checked}

-- ---- columns

keep_every : {A : Type 0} (l : List A) → keep (λ x. true) l ≡ l
keep_every [] = refl
keep_every (x ∷ l) = ap (λ r. x ∷ r) (keep_every l)

module _ (c r : ℕ) where
  abbrev stands : Request → model.Request
  stands = request_at c r

  active_stands : (p : Phase) → model.is_active (phase_at c r p) ≡ is_active p
  active_stands (Waiting d) = refl
  active_stands Expired = refl
  active_stands (Active t) = refl

  pub names_column : (l : List Request) → map (λ (q : model.Request). q.name) (map stands l) ≡ column Name l
  names_column l = map-map (λ (q : model.Request). q.name) stands l ∙ ap (map (λ (q : Request). q.name)) (sym (keep_every l))

  pub running_column : (l : List Request) → model.running (map stands l) ≡ column Program l
  running_column l =
      ap (map (λ (q : model.Request). q.program)) (keep_map stands active model.active (λ q. active_stands q.phase) l)
      ∙ map-map (λ (q : model.Request). q.program) stands (keep active l)

  pub held_column : (l : List Request) → model.held (map stands l) ≡ column Terminal l
  held_column l =
      ap (map (λ (q : model.Request). q.terminal))
      (keep_map stands (λ q. active q && not (eqb q.terminal (blank 4))) (λ q. model.active q && not (eqb q.terminal (blank 4)))
      (λ q. ap (λ (b : Bool). b && not (eqb q.terminal (blank 4))) (active_stands q.phase)) l)
      ∙ map-map (λ (q : model.Request). q.terminal) stands (keep (λ (q : Request). active q && not (eqb q.terminal (blank 4))) l)

-- ---- rows

all_both : {A : Type 0} (p q : A → Bool) (l : List A) → all p l ≡ true → all q l ≡ true → all (λ x. p x && q x) l ≡ true
all_both p q [] h g = refl
all_both p q (x ∷ l) h g =
    and_i (and_i (and_l (p x) (all p l) h) (and_l (q x) (all q l) g)) (all_both p q l (and_r (p x) (all p l) h) (and_r (q x) (all q l) g))

take_few : {A : Type 0} (n most : ℕ) (l : List A) → leb n most ≡ true → length (take n l) ≤ most
take_few n most l h = simp length-take (omega (arith, leb-true n most h))

module _ (t : Requests) where
  abbrev state : model.Interval
  state = interval_at t.register t

  abbrev short : Request → Bool
  short q = leb q.len 64

  abbrev ruled : Request → Bool
  ruled q = model.sound_request cabinet state (request_at t.register t.register q)

  -- the model's rows are the live rows
  rows_ruled : all (model.sound_request cabinet state) state.requests ≡ all ruled (live t)
  unfolding interval_at
  rows_ruled = all_map (request_at t.register t.register) ruled (model.sound_request cabinet state) (λ q. refl) (live t)

  -- a row's test is its length's and the model's
  row_parts : (q : Request) → sound_in t q ≡ (short q && ruled q)
  unfolding sound_row interval_at
  row_parts q = refl

  -- ---- the whole

  module _ (sixteen : length t.programs ≡ 16) (eight : length t.terminals ≡ 8) where
    checked_sound : checked t ≡ true → sound_r t ≡ true
    unfolding sound_r interval_at
    checked_sound h =
        let p6 = both _ _ h in
        let p5 = both _ _ p6.0 in
        let p4 = both _ _ p5.0 in
        let p3 = both _ _ p4.0 in
        let p2 = both _ _ p3.0 in
        let p1 = both _ _ p2.0 in
        let u2 = both _ _ p2.1 in
        let u1 = both _ _ u2.0 in
        let v2 = both _ _ p1.1 in
        let v1 = both _ _ v2.0 in
        let programs : leb t.pcount 16 ≡ true = ap (leb t.pcount) (sym sixteen) ∙ v1.0 in
        let terminals : leb t.tcount 8 ≡ true = ap (leb t.tcount) (sym eight) ∙ u1.0 in
        let c : ℕ = t.register in
        let rows : all (λ q. short q && ruled q) (live t) ≡ true = sym (all_same (sound_in t) (λ q. short q && ruled q) row_parts (live t)) ∙ sym (all_of (sound_in t) (live t)) ∙ p3.1 in
        and_i
        (and_i (and_i (and_i programs terminals) p1.0) (all_imp (λ q. short q && ruled q) short (λ q. and_l (short q) (ruled q)) (live t) rows))
        (unview record {
          programs = record { fit = take_few t.pcount 16 t.programs programs; unique = v1.1; named = v2.1 };
          terminals = record { fit = take_few t.tcount 8 t.terminals terminals; unique = u1.1; named = u2.1 };
          requests = record {
            fit = rw (length-map (live t) (request_at c c)) (take_few t.count 32 t.rows p1.0);
            unique = ap once (names_column c c (live t)) ∙ p4.1;
            sound = rows_ruled ∙ all_imp (λ q. short q && ruled q) ruled (λ q. and_r (short q) (ruled q)) (live t) rows;
            runs = ap once (running_column c c (live t)) ∙ p5.1;
            holds = ap once (held_column c c (live t)) ∙ p6.1;
          };
        })

    sound_checked : sound_r t ≡ true → checked t ≡ true
    unfolding sound_r interval_at
    sound_checked s =
        let p4 = both _ _ s in
        let p3 = both _ _ p4.0 in
        let p2 = both _ _ p3.0 in
        let p1 = both _ _ p2.0 in
        let programs : leb t.pcount (length t.programs) ≡ true = ap (leb t.pcount) sixteen ∙ p1.0 in
        let terminals : leb t.tcount (length t.terminals) ≡ true = ap (leb t.tcount) eight ∙ p1.1 in
        let few : leb t.count 32 ≡ true = p2.1 in
        let c : ℕ = t.register in
        let v = view {L = cabinet} {i = state} p4.1 in
        let q = v.requests in
        let rows : all (λ q. short q && ruled q) (live t) ≡ true = all_both short ruled (live t) p3.1 (sym rows_ruled ∙ q.sound) in
        let names : (names_fit t.pcount t.programs ≡ true) × (names_fit t.tcount t.terminals ≡ true) =
        (and_i (and_i programs v.programs.unique) v.programs.named, and_i (and_i terminals v.terminals.unique) v.terminals.named) in
        let each : list_all (sound_in t) (live t) ≡ true =
        all_of (sound_in t) (live t) ∙ all_same (sound_in t) (λ q. short q && ruled q) row_parts (live t) ∙ rows in
        and_i
        (and_i
        (and_i (and_i (and_i (and_i few names.0) names.1) each)
        (ap once (sym (names_column c c (live t))) ∙ q.unique))
        (ap once (sym (running_column c c (live t))) ∙ q.runs))
        (ap once (sym (held_column c c (live t))) ∙ q.holds)

    pub whole : (r : Bool) → r ≡ checked t → r ≡ sound_r t
    whole r h = h ∙ bool_ext (checked t) (sound_r t) checked_sound sound_checked
