-- `queue_ops::table::nth` meets its contract: the chain over the entries. Assumes nothing.
use Rattle.std.proofs.Common.{ℕ, eqb, rules, tests, sym, ap, ap₂, ◌∙◌, List, slice_get}
use Rattle.std.proofs.lemmas.Iterator.{YieldsList-from_slice, YieldsList-from_zip, YieldsList-from_map}
use Rattle.std.proofs.lemmas.Iterator.Adapters.{option_map_id}
use Rattle.std.proofs.lemmas.Iterator.Consumers.{YieldsList-at, YieldsList-from_filter, nth_from_yields_List}
use Rattle.queue_rows.specs.Table.{slots_of}
use Rattle.queue_ops.proofs.Seeks.{slots_zip}
use Rattle.queue_ops.proofs.table.nth.Goals as goal

pub returns : goal.returns
returns c =
    let a = c.args in
    record {
      exact =
          sym (option_map_id c.nth.result)
          ∙ nth_from_yields_List c.nth.result c.nth.new.self a.index c.nth.ensures.ran
          (YieldsList-from_map _ (λ (p : ℕ × ℕ). p.1)
          (YieldsList-at c.map.ensures.source
          (YieldsList-from_filter _ (λ (p : ℕ × ℕ). eqb p.0 a.name)
          (YieldsList-at c.filter.ensures.source
          (YieldsList-from_zip
          (YieldsList-at c.zip.ensures.first (YieldsList-from_slice c.front.result.now cc))
          (YieldsList-from_slice c.front-2.result.now cc)))
          c.filter.ensures.closure (λ x b q k. search (rules, tests))))
          c.map.ensures.closure (λ x b q k. search (rules, tests)))
          ∙ ap (λ (r : List ℕ). slice_get r a.index) (slots_zip a.name c.front.result.now c.front-2.result.now)
          ∙ ap₂ (λ (x y : List ℕ). slice_get (slots_of a.name x y) a.index) c.front.ensures.exact c.front-2.ensures.exact;
    }
