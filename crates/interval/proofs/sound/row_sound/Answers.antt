-- `sound::row_sound` meets its contract: its name and its bytes are below their bounds by their types. Assumes nothing.
use Rattle.std.proofs.Common.{◌≡◌, ℕ, ◌^◌, ◌<◌, length, get_or, ap₂, ◌∙◌, rules}
use Rattle.interval.specs.Sound.{sound_row}
use Rattle.interval.proofs.SoundLaws.{byte, bytes_are, row_answer}
use Rattle.interval.proofs.sound.row_sound.Goals as goal

pub returns : goal.returns
returns c =
    let q = c.args.q in
    let r : ℕ = c.args.t.now.register in
    let long : length c.args.q.bytes ≡ 64 = search rules in
    let low : (i : ℕ) → get_or c.args.q.bytes i 0 < 256 = search (rules, byte) in
    let word : c.args.q.name < 2 ^ 64 = search rules in
    row_answer r c.has-program.result c.has-terminal.result q long (bytes_are q.bytes low) word c.row_fits.result c.row_fits.ensures
    ∙ ap₂ (λ a b. sound_row r a b q) c.has-program.ensures.exact c.has-terminal.ensures.exact
