-- Whatever words and bytes are lent, the queues that are read off them fit and are typed, and there are as many rows and slots as the two lengths
-- allow: what the other laws ask for is what the types say. Assumes nothing.
use Rattle.std.specs.Prelude.{◌≡◌, true, List, ℕ, ◌+◌, ◌-◌, ◌*◌, ◌^◌, ◌≤◌, ◌<◌, length, take, drop, get_or}
use Rattle.std.proofs.Common.{◌∙◌, sym, arith, length-take, length-drop, ltb-true, lt-ltb}
use Rattle.base.specs.Bytes.{is_bytes}
use Rattle.base.specs.Laws.Keep.{all_take, all_drop, all_get_d_or}
use Rattle.queue_rows.specs.Table.{slots_for, rows_for, view_of, rows_in, slots_in, store}
use Rattle.queue_rows.specs.Laws.Typed.{Fits, Typed, is_word, are_words}

-- ---- how much the lengths allow

record Allowed (words bytes rows slots : ℕ) : Type 0 where
  pub held : 64 * slots ≤ bytes
  pub most : slots ≤ 128
  pub columns : 2 * rows + 3 * slots ≤ words - 3

allowed : (words bytes : ℕ) → Allowed words bytes (rows_for words (slots_for words bytes)) (slots_for words bytes)
unfolding slots_for rows_for
allowed words bytes = record { held = omega arith; most = omega arith; columns = omega arith }

module _ (w : List ℕ) where
  -- a column, as long as it should be
  column_long : (at k : ℕ) → k ≤ length w - at → length (take k (drop at w)) ≡ k
  column_long at k h = simp (length-take, length-drop) (omega arith)

  column_words : (at k : ℕ) → are_words w ≡ true → are_words (take k (drop at w)) ≡ true
  column_words at k h = all_take is_word k (drop at w) (all_drop is_word at w h)

  word_at : (i : ℕ) → are_words w ≡ true → get_or w i 0 < 2 ^ 64
  word_at i h = ltb-true (get_or w i 0) (2 ^ 64) (all_get_d_or is_word w i 0 (lt-ltb 0 (2 ^ 64) (omega arith)) h)

module _ (w b : List ℕ) where
  abbrev slots : ℕ
  slots = slots_for (length w) (length b)

  abbrev rows : ℕ
  rows = rows_for (length w) slots

  may : Allowed (length w) (length b) rows slots
  may = allowed (length w) (length b)

  pub view_rows : rows_in (view_of w (length b)) ≡ rows_for (length w) (slots_for (length w) (length b))
  view_rows = column_long w 3 rows (omega (arith, may.columns))

  pub view_slots : slots_in (view_of w (length b)) ≡ slots_for (length w) (length b)
  view_slots = column_long w (3 + rows + rows + slots) slots (omega (arith, may.columns))

  pub view_fits : are_words w ≡ true → Fits (view_of w (length b)) b
  view_fits h = record {
    pointers_long = column_long w (3 + rows) rows (omega (arith, may.columns)) ∙ sym view_rows;
    owner_long = column_long w (3 + rows + rows) slots (omega (arith, may.columns)) ∙ sym view_slots;
    len_long = column_long w (3 + rows + rows + slots + slots) slots (omega (arith, may.columns)) ∙ sym view_slots;
    slots_few = omega (arith, view_slots, may.most);
    bytes_long = omega (arith, view_slots, may.held);
    words = record { low = word_at w 1 h; high = word_at w 2 h };
  }

  pub view_typed : are_words w ≡ true → is_bytes b ≡ true → length w < 2 ^ 64 → Typed (store (view_of w (length b)) b)
  view_typed h y l = record {
    rows = omega (arith, view_rows, may.columns);
    count = word_at w 0 h;
    names = column_words w 3 rows h;
    pointers = column_words w (3 + rows) rows h;
    owner = column_words w (3 + rows + rows) slots h;
    slot = column_words w (3 + rows + rows + slots) slots h;
    len = column_words w (3 + rows + rows + slots + slots) slots h;
    past = all_drop is_word (3 + rows + rows + slots + slots + slots) w h;
    bytes = y;
  }
