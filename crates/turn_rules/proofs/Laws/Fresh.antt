-- Fresh tables are typed and as large as before; they are sound, and stand for the empty state at every clock that the register can mean.
-- Assumes nothing.
use Rattle.std.specs.Prelude.{ℕ, ◌%◌, ◌^◌, ◌<◌, ◌≡◌, refl, true, length}
use Rattle.std.proofs.Common.{sym, subst, mod-eq_of_lt, arith}
use Rattle.model.specs.State.{empty_at}
use Rattle.request_rows.specs.Laws.Fresh as requests
use Rattle.request_rows.specs.Laws.Kept as requests-kept
use Rattle.queue_rows.specs.Laws.Fresh as queues
use Rattle.queue_rows.specs.Laws.Kept as queues-kept
use Rattle.settings.specs.Laws.Standing as settings
use Rattle.settings.specs.Laws.Kept as settings_kept
use Rattle.turn_rules.specs.Tables.{Tables, interval_in, store_in}
use Rattle.turn_rules.specs.Standing.{state_at, sound_t, Typed, fresh_of}
use Rattle.turn_rules.specs.Laws.Kept.{Keeps, lines_again}
use Rattle.turn_rules.specs.Laws.Fine.{Fine, Active, Roomy, roomy_kept, from_rules}

module _ (t : Tables) (v : ℕ) where
  pub fresh_kept : Typed t → v < 2 ^ 64 → Keeps t (fresh_of t v)
  unfolding fresh_of
  fresh_kept y w =
      let m = requests-kept.fresh_kept (interval_in t) y.memory v w in
      let q = queues-kept.fresh_kept (store_in t) y.fits y.store in
      let s = settings_kept.fresh_typed t.settings in
      record {
        typed = record { memory = m.typed; fits = q.fits; store = q.typed; settings = lines_again t y _ s; rows = rw s.rows y.rows };
        memory = m.sizes;
        rows = q.rows;
        slots = q.slots;
        past = q.past;
        items = q.bytes;
        lines = s.rows;
        lines_past = s.past;
      }

  pub fresh_stands : (c : ℕ) → state_at c (fresh_of t v) ≡ empty_at c
  unfolding fresh_of
  fresh_stands c =
      let i = requests.fresh_stands (interval_in t) t.area v c in
      let q = (queues.fresh_stands t.queues t.items).1 in
      let s = (settings.fresh_stands t.settings).none in
      cc

  -- where a word is lent for the register
  module _ (lent : length t.requests.register ≡ 1) where
    pub fresh_fine : (c : ℕ) → c % 2 ^ 32 ≡ v → Fine c (fresh_of t v)
    unfolding fresh_of
    fresh_fine c e = record {
      interval = requests.fresh_fine (interval_in t) t.area v c lent e;
      queues = (queues.fresh_stands t.queues t.items).0;
      settings = (settings.fresh_stands t.settings).soundly;
    }

    -- and rows for settings
    pub fresh_sound : Typed t → Roomy t → v < 2 ^ 32 → sound_t (fresh_of t v) ≡ true
    fresh_sound y h w =
        from_rules v (fresh_of t v)
        (record {
          fine = fresh_fine v (mod-eq_of_lt w);
          active = subst Active (sym (fresh_stands v)) refl;
          roomy = roomy_kept t (fresh_of t v) (fresh_kept y (omega arith)) h;
        })
