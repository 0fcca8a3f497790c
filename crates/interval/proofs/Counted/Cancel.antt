-- A cancel's ends, by whether the name is known and where its first stands: the code has an Option now, and nothing cites these. Assumes nothing.
use Rattle.std.specs.Prelude.{◌≡◌, ℕ, true, false, [], slice_index_or, Ok, Err}
use Rattle.std.proofs.Common.{sym, ne_eqb}
use Rattle.base.specs.Lists.{any, first_at, cut_at}
use Rattle.base.specs.Bytes.{blank}
use Rattle.model.specs.Interval as model
use Rattle.interval.specs.declared.Requests.{Requests}
use Rattle.interval.specs.declared.answers.CancelError.TheVariants as answers
use Rattle.interval.specs.Answers.{Cancelled}
use Rattle.interval.specs.Table.{live, with_live}
use Rattle.interval.specs.Stands.{interval_at, Means, sound_r, Done}
use Rattle.interval.specs.Rows.{active, named, out_row}
use Rattle.interval.specs.Cancel.{cancel_in, cancel_gives, cancelled}
use Rattle.interval.proofs.Laws.Cancel as laws

abbrev CancelDone : ℕ → Requests → ℕ → Cancelled → Type 0
CancelDone c t n r = Done c c t r.requests (model.cancel (interval_at c t) n) (cancel_gives r.outcome) 0 []

abbrev pub CancelBoth : Requests → ℕ → Cancelled → Type 0
CancelBoth t n r = (r ≡ cancel_in t n) × ((c : ℕ) → Means t c → sound_r t ≡ true → CancelDone c t n r)

module _ (t : Requests) (n : ℕ) where
  cancel_both : (r : Cancelled) → r ≡ cancel_in t n → CancelBoth t n r
  cancel_both r e = laws.cancel_both t n r e

  pub cancel_blank : n ≡ blank 8 → CancelBoth t n (cancelled t (Err answers.Invalid))
  cancel_blank e = cancel_both (cancelled t (Err answers.Invalid)) (laws.cancel_blank t n e)

  module _ (ne : n ≡ blank 8 → ⊥) where
    pub cancel_missing : any (named n) (live t) ≡ false → CancelBoth t n (cancelled t (Err answers.NotFound))
    unfolding cancel_in
    cancel_missing h = cancel_both (cancelled t (Err answers.NotFound)) (rw (ne_eqb n (blank 8) ne, h))

    module _ (h : any (named n) (live t) ≡ true) (i : ℕ) (ei : i ≡ first_at (named n) (live t)) where
      pub cancel_active : active (slice_index_or t.rows i out_row) ≡ true → CancelBoth t n (cancelled t (Err answers.NotFound))
      unfolding cancel_in
      cancel_active a = cancel_both (cancelled t (Err answers.NotFound)) (rw (ne_eqb n (blank 8) ne, h, sym ei, a))

      pub cancel_hit : active (slice_index_or t.rows i out_row) ≡ false → (u : Requests) → u ≡ with_live t (cut_at i (live t))
          → CancelBoth t n (cancelled u (Ok tt))
      unfolding cancel_in
      cancel_hit a u eu = cancel_both (cancelled u (Ok tt)) (rw (ne_eqb n (blank 8) ne, h, sym ei, a, eu))
