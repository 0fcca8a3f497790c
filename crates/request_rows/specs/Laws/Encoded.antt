-- The fields of a request are found again in its words, where they have their widths. Assumes nothing.
use Rattle.std.specs.Prelude.{◌+◌, ◌*◌, ◌^◌, ◌<◌, ◌≡◌, refl, true, false}
use Rattle.std.proofs.Common.{arith, lt-ltb}
use Rattle.base.specs.Laws.Tests.{and_i}
use Rattle.request_rows.specs.declared.Phase.{Phase}
use Rattle.request_rows.specs.declared.Phase.TheVariants.{Waiting, Expired, Active}
use Rattle.request_rows.specs.declared.Request.{Request}
use Rattle.request_rows.specs.Rows.{phase_word, program_of, terminal_of, len_of, slot_of, encode}
use Rattle.request_rows.specs.Typed.{word, typed_row}
use Rattle.request_rows.specs.Laws.Standing.{OnCircle}

-- ---- the phase

pub phase_word_lem : (p : Phase) → OnCircle p → word (phase_word p) ≡ true
phase_word_lem (Waiting d) h = lt-ltb (4_294_967_296 + d) (2 ^ 64) (omega arith)
phase_word_lem Expired h = refl
phase_word_lem (Active true) h = refl
phase_word_lem (Active false) h = refl

-- ---- a request

pub record Fits (q : Request) : Type 0 where
  pub name : q.name < 2 ^ 64
  pub program : q.program < 2 ^ 32
  pub terminal : q.terminal < 2 ^ 32
  pub phase : OnCircle q.phase
  pub len : q.len < 256
  pub slot : q.slot < 256

module _ (q : Request) (h : Fits q) where
  pub program_again : program_of (encode q) ≡ q.program
  program_again = omega (arith, h.terminal)

  pub terminal_again : terminal_of (encode q) ≡ q.terminal
  terminal_again = omega (arith, h.terminal)

  pub len_again : len_of (encode q) ≡ q.len
  len_again = omega (arith, h.len)

  pub slot_again : slot_of (encode q) ≡ q.slot
  slot_again = omega (arith, h.len, h.slot)

  pub encode_typed : typed_row (encode q) ≡ true
  encode_typed =
      and_i (and_i (and_i
      (lt-ltb q.name (2 ^ 64) h.name)
      (lt-ltb (q.program * 4_294_967_296 + q.terminal) (2 ^ 64) (omega (arith, h.program, h.terminal))))
      (phase_word_lem q.phase h.phase))
      (lt-ltb (q.len + q.slot * 256) (2 ^ 64) (omega (arith, h.len, h.slot)))
