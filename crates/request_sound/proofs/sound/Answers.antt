-- `sound` meets its contract: that bytes are bytes and words are words, their types say. Assumes nothing.
use Rattle.base.specs.Laws.Told.{bytes_told}
use Rattle.request_sound.specs.Laws.Whole.{whole}
use Rattle.request_sound.proofs.sound.Goals as goal

pub returns : goal.returns
returns c =
    let a = c.args in
    record {
      exact = whole _ _ a.requests.now a.area.now (bytes_told a.area.now c.type_inv.area) c.type_inv.requests _ _ c.min-slots.ensures c.parts_sound.ensures;
    }
