-- Removing by the first place of a name is what the model does by the name, where names stand once. Assumes nothing.
use Rattle.std.specs.Prelude.{◌≡◌, ℕ, ◌<◌, true, false, not, List, map, length, ◌==◌, slice_index_or, refl}
use Rattle.std.proofs.Common.{sym, ◌∙◌, eqb-true}
use Rattle.std.proofs.Math.Path.{ap}
use Rattle.base.specs.Lists.{keep, any, first, first_at, once, cut_at}
use Rattle.base.specs.Laws.Tests.{by_test}
use Rattle.base.specs.Laws.Keep.{all_none, keep_all, first_at_lt, first_passes, get_d_first_at}
use Rattle.base.specs.Laws.Maps.{keep_map}
use Rattle.base.specs.Laws.Index.{cut_by_name}
use Rattle.model.specs.Limits.{cabinet}
use Rattle.model.specs.Interval as model
use Rattle.model.proofs.Laws.SoundInterval.{remove_sound}
use Rattle.interval.specs.declared.Request.{Request}
use Rattle.interval.specs.declared.Requests.{Requests}
use Rattle.interval.specs.Table.{live, with_live}
use Rattle.interval.specs.Stands.{request_at, interval_at, Means, sound_r}
use Rattle.interval.specs.Rows.{named, out_row}
use Rattle.interval.specs.Remove.{remove_in, Removed}
use Rattle.interval.specs.Laws.Ties.{Small, small, sound_here, sound_back}
use Rattle.interval.proofs.Laws.Standing.{name_of, names_once, live_at, cut_small}

-- without the first of a name, which is the only one
cut_named : (n : ℕ) (l : List Request) → once (map name_of l) ≡ true → any (named n) l ≡ true
    → cut_at (first_at (named n) l) l ≡ keep (λ (q : Request). not (named n q)) l
cut_named n l o h =
    let e : (slice_index_or l (first_at (named n) l) out_row).name ≡ n =
    ap name_of (get_d_first_at (named n) out_row l) ∙ eqb-true (first (named n) out_row l).name n (first_passes (named n) out_row l h) in
    cut_by_name name_of l (first_at (named n) l) out_row o (first_at_lt (named n) l h)
    ∙ ap (λ (m : ℕ). keep (λ (q : Request). not (q.name == m)) l) e

-- the model drops what the live rows drop
drop_at : (c register n : ℕ) (l : List Request)
    → model.drop_request n (map (request_at c register) l) ≡ map (request_at c register) (keep (λ (q : Request). not (named n q)) l)
drop_at c register n l =
    keep_map (request_at c register) (λ (q : Request). not (named n q)) (λ (q : model.Request). not (q.name == n)) (λ q. refl) l

module _ (c : ℕ) (t : Requests) (n : ℕ) (m : Means t c) (s : sound_r t ≡ true) where
  pub cut_stands : any (named n) (live t) ≡ true
      → interval_at c (with_live t (cut_at (first_at (named n) (live t)) (live t))) ≡ model.remove (interval_at c t) n
  unfolding interval_at
  cut_stands h =
      live_at c t (cut_at (first_at (named n) (live t)) (live t))
      ∙ ap (λ (l : List Request). model.with_requests (interval_at c t) (map (request_at c t.register) l)) (cut_named n (live t) (names_once c t m s) h)
      ∙ ap (model.with_requests (interval_at c t)) (sym (drop_at c t.register n (live t)))

  -- the same of any place
  pub cut_stands_at : (i : ℕ) → i < length (live t)
      → interval_at c (with_live t (cut_at i (live t))) ≡ model.remove (interval_at c t) (slice_index_or (live t) i out_row).name
  unfolding interval_at
  cut_stands_at i h =
      live_at c t (cut_at i (live t))
      ∙ ap (λ (l : List Request). model.with_requests (interval_at c t) (map (request_at c t.register) l)) (cut_by_name name_of (live t) i out_row (names_once c t m s) h)
      ∙ ap (model.with_requests (interval_at c t)) (sym (drop_at c t.register (slice_index_or (live t) i out_row).name (live t)))

  remove_stands : interval_at c (remove_in t n) ≡ model.remove (interval_at c t) n
  unfolding remove_in interval_at
  remove_stands =
      by_test (any (named n) (live t)) (λ h. rw h (cut_stands h))
      (λ h.
      let k : keep (λ (q : Request). not (named n q)) (live t) ≡ live t = keep_all (λ (q : Request). not (named n q)) (live t) (all_none (named n) (live t) ∙ ap not h) in
      rw h
      (ap (model.with_requests (interval_at c t)) (sym (drop_at c t.register n (live t) ∙ ap (map (request_at c t.register)) k))))

  remove_small : Small (remove_in t n)
  unfolding remove_in
  remove_small =
      by_test (any (named n) (live t)) (λ h. rw h (cut_small t (small t s) (first_at (named n) (live t)) (first_at_lt (named n) (live t) h)))
      (λ h. rw h (small t s))

  remove_means : Means (remove_in t n) c
  unfolding remove_in
  remove_means = by_test (any (named n) (live t)) (λ h. rw h m) (λ h. rw h m)

  pub remove_done : Removed c t n (remove_in t n)
  remove_done =
      let e = remove_stands in
      record {
        stands = e;
        means = remove_means;
        soundly =
            sound_back (remove_in t n) c remove_means remove_small
            (ap (model.sound_interval cabinet) e ∙ remove_sound cabinet (interval_at c t) (sound_here t c m s) n);
      }

-- ---- both clauses

abbrev pub RemoveDone : Requests → ℕ → Requests → Type 0
RemoveDone t n r = (r ≡ remove_in t n) × ((c : ℕ) → Means t c → sound_r t ≡ true → Removed c t n r)

module _ (t : Requests) (n : ℕ) where
  remove_both : (r : Requests) → r ≡ remove_in t n → RemoveDone t n r
  remove_both r e = (e, λ c m s. rw e (remove_done c t n m s))

  pub removed : (i : ℕ) (r : Requests) → i ≡ first_at (named n) (live t) → any (named n) (live t) ≡ true → r ≡ with_live t (cut_at i (live t)) → RemoveDone t n r
  unfolding remove_in
  removed i r ei h e = remove_both r (e ∙ rw (h, ei))

  pub nothing_removed : any (named n) (live t) ≡ false → RemoveDone t n t
  unfolding remove_in
  nothing_removed h = remove_both t (rw h)
