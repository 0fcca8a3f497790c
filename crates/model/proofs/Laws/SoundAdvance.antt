-- Advancing keeps interval control sound: the new list is a rearrangement of the old, of which those that are due become expired;
-- the others that wait are due later than the new clock, and no active task is touched.
-- Assumes nothing.
use Rattle.std.specs.Prelude.{ℕ, ◌+◌, ◌<◌, ◌≤◌, ◌≡◌, refl, Bool, true, false, not, List, map, length, leb, ltb}
use Rattle.std.proofs.Common.{◌∙◌, append-nil, arith, length-append, leb-true, leb-false, le-leb, lt-ltb}
use Rattle.std.proofs.lemmas.List.{length-map}
use Rattle.std.proofs.lemmas.Bool.{not-true}
use Rattle.base.specs.Lists.{keep, all, copies, once}
use Rattle.base.specs.Sort.{sort}
use Rattle.base.specs.Laws.Tests.{and_r, and_i}
use Rattle.base.specs.Laws.Keep.{keep_append, all_append, all_keep, all_keep_imp, keep_comm, length_split}
use Rattle.base.specs.Laws.Maps.{map-append, map-map, all_map_imp, keep_map_none}
use Rattle.base.specs.Laws.Counting.{copies_append, copies_split, copies_once, once_copies, once_keep}
use Rattle.base.specs.Laws.Sorting.{length_sort, all_sort, copies_sort}
use Rattle.model.specs.Limits.{Limits}
use Rattle.model.specs.Plans.{first_of}
use Rattle.model.specs.Interval.{Phase, Waiting, Expired, Active, Request, Interval, with_clock, in_phase, is_due, no_later, active, newly, lapse, advance, sound_phase, sound_request, sound_interval}
use Rattle.model.proofs.Laws.SoundInterval.{view, view_request, in_phase_lem, put_requests, name_of, program_of, terminal_of, holder}

-- ---- the lapsed list, of any clock

abbrev due : ℕ → Request → Bool
due c q = is_due c q.phase

-- still waiting, expired before, or active
abbrev pub stays : ℕ → Request → Bool
stays c q = not (due c q)

abbrev sooner : Request → Request → Bool
sooner q p = no_later q.phase p.phase

module _ (c : ℕ) (l : List Request) where
  -- the newly expired
  abbrev pub fallen : List Request
  fallen = map (in_phase Expired) (sort sooner (newly c l))

  lapse_length : length (lapse c l) ≡ length l
  lapse_length =
      rw (length-append (keep (stays c) l) fallen, length-map (sort sooner (newly c l)) (in_phase Expired), length_sort sooner (newly c l))
      (omega (arith, length_split (due c) l))

  -- the names are a rearrangement
  lapse_copies : (n : ℕ) → copies n (map name_of (lapse c l)) ≡ copies n (map name_of l)
  lapse_copies n =
      rw (
        map-append name_of (keep (stays c) l) fallen,
        map-map name_of (in_phase Expired) (sort sooner (newly c l)),
        copies_append n (map name_of (keep (stays c) l)) (map name_of (sort sooner (newly c l))),
        copies_sort sooner name_of n (newly c l),
      )
      (omega (arith, copies_split name_of (due c) l n))

  lapse_once : once (map name_of l) ≡ true → once (map name_of (lapse c l)) ≡ true
  lapse_once o = copies_once (map name_of (lapse c l)) (λ n. rw (lapse_copies n) (once_copies (map name_of l) o n))

  -- of a test that no expired request passes, fewer pass
  lapse_keep : (a : Request → Bool) → ((q : Request) → a (in_phase Expired q) ≡ false) → keep a (lapse c l) ≡ keep (stays c) (keep a l)
  lapse_keep a h =
      rw (keep_append a (keep (stays c) l) fallen, keep_map_none (in_phase Expired) a h (sort sooner (newly c l)))
      (append-nil (keep a (keep (stays c) l)) ∙ keep_comm a (stays c) l)

  lapse_keep_once : (f : Request → ℕ) (a : Request → Bool) → ((q : Request) → a (in_phase Expired q) ≡ false)
      → once (map f (keep a l)) ≡ true → once (map f (keep a (lapse c l))) ≡ true
  lapse_keep_once f a h o = rw (lapse_keep a h) (once_keep f (stays c) (keep a l) o)

-- ---- each is sound at the new clock

module _ (L : Limits) (i : Interval) (c : ℕ) (later : i.clock ≤ c) where
  phase_later : (b : List ℕ) (p : Phase) → sound_phase L i.clock b p ≡ true → not (is_due c p) ≡ true → sound_phase L c b p ≡ true
  phase_later b (Waiting d) h n =
      let far : c < d = leb-false d c (not-true (leb d c) n) in
      let near : leb d (i.clock + L.interval) ≡ true = and_r (ltb i.clock d) (leb d (i.clock + L.interval)) h in
      and_i (lt-ltb c d far) (le-leb d (c + L.interval) (omega (arith, leb-true d (i.clock + L.interval) near)))
  phase_later b Expired h n = refl
  phase_later b (Active t) h n = h

  waits_on : (q : Request) → sound_request L i q ≡ true → stays c q ≡ true → sound_request L (with_clock i c) q ≡ true
  waits_on q h n = in_phase_lem L i c q q.phase (phase_later q.bytes q.phase (view_request L i q h).phase n) h

  expires : (q : Request) → sound_request L i q ≡ true → sound_request L (with_clock i c) (in_phase Expired q) ≡ true
  expires q h = in_phase_lem L i c q Expired refl h

  lapse_sound : (l : List Request) → all (sound_request L i) l ≡ true → all (sound_request L (with_clock i c)) (lapse c l) ≡ true
  lapse_sound l h =
      rw (all_append (sound_request L (with_clock i c)) (keep (stays c) l) (fallen c l))
      (and_i
      (all_keep_imp (sound_request L i) (stays c) (sound_request L (with_clock i c)) waits_on l h)
      (all_map_imp (in_phase Expired) (sound_request L i) (sound_request L (with_clock i c)) expires (sort sooner (newly c l))
      (rw (all_sort sooner (sound_request L i) (newly c l)) (all_keep (sound_request L i) (due c) l h))))

pub advance_sound : (L : Limits) (i : Interval) → sound_interval L i ≡ true → (ticks : ℕ) → first_of (advance L i ticks).checks ≡ 0
    → sound_interval L (advance L i ticks).effect.state ≡ true
unfolding advance
advance_sound L i s ticks e =
    let v = (view s).requests in
    let c : ℕ = i.clock + ticks in
    let l : List Request = i.requests in
    put_requests L i c (lapse c l) s
    (record {
      fit = rw (lapse_length c l) v.fit;
      unique = lapse_once c l v.unique;
      sound = lapse_sound L i c (omega arith) l v.sound;
      runs = lapse_keep_once c l program_of active (λ q. refl) v.runs;
      holds = lapse_keep_once c l terminal_of holder (λ q. refl) v.holds;
    })
