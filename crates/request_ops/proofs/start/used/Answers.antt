-- `start::used` meets its contract. Assumes nothing.
use Rattle.std.proofs.Common.{ℕ, List, ap₂, ◌∙◌, rules, tests, refl, [], ◌∷◌, map, ◌≡◌}
use Rattle.std.specs.List.{fold}
use Rattle.std.proofs.lemmas.Iterator.{YieldsList-from_slice}
use Rattle.std.proofs.lemmas.Iterator.Consumers.{fold_from_yields_List}
use Rattle.slots.specs.Bits.{marked}
use Rattle.slots.specs.declared.Used.{Used}
use Rattle.request_rows.specs.Rows.{row_of, slot_of}
use Rattle.request_rows.specs.Start.{used_from}
use Rattle.request_ops.proofs.start.used.Goals as goal

-- the slots, one row a turn
turn : Used → List ℕ → Used
turn u x = marked u (slot_of (row_of x))

turns : (u : Used) (w : List (List ℕ)) → fold turn u w ≡ used_from u (map row_of w)
unfolding turn
turns u [] = refl
turns u (x ∷ w) = turns (turn u x) w

pub returns : goal.returns
unfolding turn
returns c =
    fold_from_yields_List _ turn c.none.result c.fold.result c.fold.ensures.ran (YieldsList-from_slice c.live.result.now cc) (λ u x v q k. search (rules, tests))
    ∙ turns c.none.result c.live.result.now ∙ ap₂ used_from c.none.ensures.exact c.live.ensures.exact
