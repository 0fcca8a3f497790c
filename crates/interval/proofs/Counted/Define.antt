-- A definition as the code once found it: the ruling, a Bool that told whether it was done, and then the name put behind the others with an index
-- counted on. One function enters a name now and answers with a Result, and nothing cites these. Assumes nothing.
use Rattle.std.specs.Prelude.{◌≡◌, ℕ, ◌+◌, ◌<◌, Bool, true, false, List, [], ◌∷◌, length, take, slice_set, Result, is_ok}
use Rattle.std.proofs.Common.{sym, ap, ap₂, ◌∙◌, arith, length-append, length-take}
use Rattle.base.specs.Choice.{pick}
use Rattle.base.specs.Lists.{over}
use Rattle.base.specs.Laws.Over.{over_put}
use Rattle.model.specs.Plans.{Plan}
use Rattle.model.specs.Interval as model
use Rattle.interval.specs.declared.Requests.{Requests}
use Rattle.interval.specs.declared.answers.DefineError.{DefineError}
use Rattle.interval.specs.Answers.{Defined}
use Rattle.interval.specs.Define.{ruling, behind}
use Rattle.interval.specs.Laws.Define.{Names, Both, define_done, room}

module _ {t : Requests} {n most count : ℕ} {places : List ℕ} {put : ℕ → List ℕ → Requests} {answer : Defined} {plan : ℕ → Plan model.Interval}
    (a : Names t n most count places put answer plan) where
  abbrev known : List ℕ
  known = take count places

  abbrev more : Requests
  more = put (length (behind count places n)) (over (behind count places n) places)

  both : (r : Defined) → r ≡ answer → Both a r
  both r e = (e, λ c m s. rw e (define_done a c m s))

  -- o is the ruling, and d tells whether it is done
  module _ (long : length places ≡ most) (o : Result (Unit {0}) DefineError) (eo : o ≡ ruling (length places) known n) (d : Bool) (ed : d ≡ is_ok o) where
    told : o ≡ ruling most known n
    told = eo ∙ ap (λ (k : ℕ). ruling k known n) long

    as_told : (u : Requests) → u ≡ pick d more t → Both a (record { requests = u; outcome = o })
    as_told u e =
        both _
        (ap (λ (x : Requests). record { requests = x; outcome = o }) (e ∙ ap (λ (b : Bool). pick b more t) ed)
        ∙ ap (λ (x : Result (Unit {0}) DefineError). record { requests = pick (is_ok x) more t; outcome = x }) told ∙ sym a.answered)

    pub define_room : d ≡ true → count < most
    define_room e = omega (arith, room most known n (ap is_ok (sym told) ∙ sym ed ∙ e), length-take count places)

    pub define_put : d ≡ true → Both a (record { requests = put (count + 1) (slice_set places count n); outcome = o })
    define_put e =
        let k : count < length places = omega (arith, define_room e, long) in
        let z : count + 1 ≡ length (behind count places n) = omega (arith, length-append known (n ∷ []), length-take count places) in
        as_told _ (ap₂ put z (over_put count places n k) ∙ sym (ap (λ (b : Bool). pick b more t) e))

    pub define_same : d ≡ false → Both a (record { requests = t; outcome = o })
    define_same e = as_told t (rw e)
