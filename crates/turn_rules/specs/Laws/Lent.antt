-- What seven lent slices hold is typed, whatever it is; and slices of the lengths that some sizes need are tables of those sizes. Assumes nothing.
use Rattle.std.specs.Prelude.{ℕ, ◌+◌, ◌*◌, ◌/◌, ◌^◌, ◌<◌, ◌≤◌, ◌≡◌, refl, true, List, [], ◌∷◌, length, drop}
use Rattle.std.proofs.Common.{◌∙◌, arith, length-take, length-drop}
use Rattle.base.specs.Lists.{all}
use Rattle.base.specs.Bytes.{is_bytes}
use Rattle.request_rows.specs.Rows.{rows_of, rest_of}
use Rattle.request_rows.specs.Typed.{word}
use Rattle.request_rows.specs.Laws.Typed as requests
use Rattle.request_rows.specs.Laws.Words.{length_rows}
use Rattle.queue_rows.specs.Table.{slots_for, rows_for}
use Rattle.queue_rows.specs.Laws.View as queues
use Rattle.settings.specs.Laws.View.{view_rows}
use Rattle.settings.specs.Laws.Typed as settings
use Rattle.turn_rules.specs.Tables.{tables_of}
use Rattle.turn_rules.specs.Standing.{Typed, Sizes, Sized}

-- ---- what the types say of slices

-- words of 64 bits, and fewer than 2 ^ 64 of them
pub record Words (w : List ℕ) : Type 0 where
  pub each : all word w ≡ true
  pub size : length w < 2 ^ 64

pub record Lent (p m w d q i s : List ℕ) : Type 0 where
  pub programs : Words p
  pub terminals : Words m
  pub requests : Words w
  pub area : is_bytes d ≡ true
  pub queues : Words q
  pub items : is_bytes i ≡ true
  pub settings : Words s

-- as long as some sizes need
pub record Long (z : Sizes) (p m w d q i s : List ℕ) : Type 0 where
  pub programs : length p ≡ 1 + z.programs
  pub terminals : length m ≡ 1 + z.terminals
  pub requests : length w ≡ 2 + 4 * z.requests
  pub area : length d ≡ 64 * z.requests
  pub queues : length q ≡ 3 + 2 * z.queues + 3 * z.slots
  pub items : length i ≡ 64 * z.slots
  pub settings : length s ≡ 1 + 12 * z.programs

module _ (p m w d q i s : List ℕ) where
  pub lent_typed : Lent p m w d q i s → Typed (tables_of p m w d q i s)
  lent_typed h =
      let y = settings.view_typed s h.settings.each in
      record {
        memory = record {
          programs = requests.names_typed p h.programs.each h.programs.size;
          terminals = requests.names_typed m h.terminals.each h.terminals.size;
          requests = requests.requests_typed w h.requests.each h.requests.size;
          bytes = h.area;
        };
        fits = queues.view_fits q i h.queues.each;
        store = queues.view_typed q i h.queues.each h.items h.queues.size;
        settings = record { counted = y.counted; rows = refl; each = y.each; past = refl; rest = y.rest };
        rows = omega (arith, y.rows, h.settings.size);
      }

-- ---- how much they hold

length_rest : (w : List ℕ) → 4 * length (rows_of w) + length (rest_of w) ≡ length w
length_rest [] = refl
length_rest (a ∷ []) = refl
length_rest (a ∷ b ∷ []) = refl
length_rest (a ∷ b ∷ c ∷ []) = refl
length_rest (a ∷ b ∷ c ∷ e ∷ w) = omega (arith, length_rest w)

-- so many words and bytes are for so many queues and slots
slots_for_lem : (k n : ℕ) → k ≤ 128 → slots_for (3 + 2 * n + 3 * k) (64 * k) ≡ k
unfolding slots_for
slots_for_lem k n h = omega arith

rows_for_lem : (k n : ℕ) → rows_for (3 + 2 * n + 3 * k) k ≡ n
unfolding rows_for
rows_for_lem k n = omega arith

module _ (z : Sizes) (most : z.slots ≤ 128) (p m w d q i s : List ℕ) (h : Long z p m w d q i s) where
  slots_lent : slots_for (length q) (length i) ≡ z.slots
  slots_lent = rw (h.queues, h.items) (slots_for_lem z.slots z.queues most)

  rows_lent : rows_for (length q) (slots_for (length q) (length i)) ≡ z.queues
  rows_lent = rw (slots_lent, h.queues) (rows_for_lem z.slots z.queues)

  pub lent_sized : Sized z (tables_of p m w d q i s)
  lent_sized =
      let rows = length_rows (drop 2 w) in
      let rest = length_rest (drop 2 w) in
      record {
        programs = omega (arith, length-drop 1 p, h.programs);
        terminals = omega (arith, length-drop 1 m, h.terminals);
        register = omega (arith, length-take 1 w, h.requests);
        requests = omega (arith, rows, length-drop 2 w, h.requests);
        requests_past = omega (arith, rows, rest, length-drop 2 w, h.requests);
        area = h.area;
        queues = queues.view_rows q i ∙ rows_lent;
        slots = queues.view_slots q i ∙ slots_lent;
        queues_past = rw (rows_lent, slots_lent) (omega (arith, length-drop (3 + z.queues + z.queues + z.slots + z.slots + z.slots) q, h.queues));
        items = h.items;
        settings = omega (arith, view_rows s, h.settings);
        settings_past = omega (arith, length-drop (length (drop 1 s) / 12 * 12) (drop 1 s), length-drop 1 s, h.settings);
      }
