-- `sound::sound` meets its contract: the arrays are as long as their types say. Assumes nothing.
use Rattle.std.proofs.Common.{◌≡◌, length, rules}
use Rattle.interval.proofs.SoundLawsWhole.{whole}
use Rattle.interval.proofs.sound.sound.Goals as goal

pub returns : goal.returns
returns c =
    let sixteen : length c.args.t.programs ≡ 16 = search rules in
    let eight : length c.args.t.terminals ≡ 8 = search rules in
    record { exact = whole c.args.t sixteen eight c.all_sound.result c.all_sound.ensures }
