-- What `step_on` and `step` give in each of their branches is what `step_on` and `step_in` say. Assumes nothing.
use Prim.Native.Nat.{ℕ}
use mathlib.Core.Path.{◌≡◌, refl, ap, ◌∙◌}
use mathlib.Core.Bool.{Bool, true, false, ◌||◌}
use mathlib.Core.List.{List, []}
use lib.Dec.{eqb}
use Rattle.base.specs.Choice.{pick}
use Rattle.base.specs.Bytes.{blank}
use Rattle.model.specs.Plans.{normal, Outcome}
use Rattle.model.specs.Commands.{issuer, formed}
use Rattle.model.specs.Demands.{Stepped}
use Rattle.handlers.specs.Decide.{decide_in}
use Rattle.handlers.specs.declared.Setting.{Setting}
use Rattle.handlers.specs.declared.Setting.TheVariants.{Unset, Ignore, Label}
use Rattle.monitor.specs.declared.Parts.{Parts}
use Rattle.monitor.specs.declared.Tables.{Tables}
use Rattle.monitor.specs.declared.answers.Answer.{Answer}
use Rattle.monitor.specs.declared.answers.Said.{Said}
use Rattle.monitor.specs.declared.obey.Obeyed.{Obeyed}
use Rattle.monitor.specs.declared.settle.Turned.{Turned}
use Rattle.monitor.specs.declared.step.Stepped as declared
use Rattle.monitor.specs.Answers.{saying, said, answering}
use Rattle.monitor.specs.Table.{sound_p}
use Rattle.monitor.specs.Step.{Lent, lent, obeys, turned, whole, decided_in, decided_as, settle_in, settle_as, allowed_in, obeyed_in, step_on, step_in}

abbrev turned_as : Parts → Answer → Turned
turned_as p a = record { parts = p; answer = a }

abbrev stepped_as : Tables → Answer → declared.Stepped
stepped_as t a = record { tables = t; answer = a }

-- the bytes of the items, put back into the tables
abbrev together : Lent Turned → declared.Stepped
together y = stepped_as (record { parts = y.reply.parts; items = y.items }) y.reply.answer

-- ---- what is settled beside the items is settled with them

settled_same : (o : Outcome Tables) (n : ℕ) → lent (settle_as (obeys o).reply n) o.state.items ≡ turned (settle_in n o)
unfolding settle_as settle_in
settled_same o n =
    by (eqb o.condition normal || eqb n (blank 8)) (decide_in o.state.parts.tasks n o.condition)
  where
    by : (b : Bool) (x : Setting) → lent (pick b (decided_as o.state.parts (said o) n Ignore) (decided_as o.state.parts (said o) n x)) o.state.items
        ≡ turned (pick b (decided_in o n Ignore) (decided_in o n x))
    by true x = refl
    by false Unset = refl
    by false Ignore = refl
    by false (Label l) = refl

-- ---- step_on

module _ (t : Tables) (r : List ℕ) where
  pub heard : (o : Obeyed) (b : List ℕ) (n : ℕ) (x : Turned) → formed r ≡ true → allowed_in t.parts r ≡ true → lent o b ≡ obeys (obeyed_in t r) → n ≡ issuer r → x ≡ settle_as o n
      → lent x b ≡ turned (step_on t r)
  unfolding step_on
  heard o b n x f m eo en ex =
      let e : lent x b ≡ lent (settle_as (obeys (obeyed_in t r)).reply (issuer r)) (obeyed_in t r).state.items =
      ap (λ (y : Turned). lent y b) (ex ∙ ap (settle_as o) en) ∙ ap (λ (y : Lent Obeyed). lent (settle_as y.reply (issuer r)) y.items) eo in
      rw (f, m) (e ∙ settled_same (obeyed_in t r) (issuer r))

  -- ---- step

  pub unsound : (s : Said) (a : Answer) → sound_p t.parts ≡ false → s ≡ saying 32 0 [] → a ≡ answering s 0 0
      → ◌≡◌ {A = declared.Stepped} (record { tables = t; answer = a }) (whole (step_in t r))
  unfolding step_in
  unsound s a k es ea = rw k (ap (stepped_as t) (ea ∙ ap (λ (x : Said). answering x 0 0) es))

  pub stepped : (x : Turned) (b : List ℕ) → sound_p t.parts ≡ true → lent x b ≡ turned (step_on t r)
      → ◌≡◌ {A = declared.Stepped} (record { tables = record { parts = x.parts; items = b }; answer = x.answer }) (whole (step_in t r))
  unfolding step_in
  stepped x b k e = rw k (ap together e)
