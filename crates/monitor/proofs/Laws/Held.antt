-- What a run holds of a record, part by part: the part of its lane is asked, then the handlers, and that is `step_on`. Assumes nothing.
use Rattle.std.specs.Prelude.{◌≡◌, refl, Bool, true, false, List, [], ℕ, Ok, Err}
use Rattle.std.proofs.Math.Path.{sym, ap, ap₂}
use Rattle.std.proofs.Common.{◌∙◌}
use Rattle.base.specs.Choice.{pick}
use Rattle.model.specs.Plans.{Outcome}
use Rattle.model.specs.Commands.{command, issuer}
use Rattle.interval.specs.Remove.{remove_in}
use Rattle.interval.specs.Runs as interval
use Rattle.interval.specs.declared.Requests.{Requests}
use Rattle.queues.specs.Runs as queues
use Rattle.queues.specs.declared.Queues.{Queues as Waiting}
use Rattle.handlers.specs.Decide.{decide_in}
use Rattle.handlers.specs.Forget.{forget_in}
use Rattle.handlers.specs.declared.Setting.{Setting}
use Rattle.handlers.specs.declared.Setting.TheVariants.{Ignore}
use Rattle.handlers.specs.declared.Tasks.{Tasks}
use Rattle.monitor.specs.declared.Parts.{Parts}
use Rattle.monitor.specs.declared.Tables.{Tables}
use Rattle.monitor.specs.declared.answers.Answer.{Answer}
use Rattle.monitor.specs.declared.answers.Said.{Said}
use Rattle.records.specs.declared.Part.TheVariants.{Interval, Finish, Queues, Settings}
use Rattle.frames.specs.Action.{code_of, label_of}
use Rattle.monitor.specs.declared.lanes.Refusal.TheVariants.{Malformed, Stranger, Wrong}
use Rattle.monitor.specs.declared.lanes.Verdict.{Verdict}
use Rattle.monitor.specs.declared.requests.Asked.{Asked}
use Rattle.monitor.specs.declared.settings.Made.{Made}
use Rattle.monitor.specs.declared.settle.Turned.{Turned}
use Rattle.monitor.specs.declared.store.Stored.{Stored}
use Rattle.monitor.specs.Answers.{saying, said, answering}
use Rattle.monitor.specs.Requests.{asks, ask_of}
use Rattle.monitor.specs.Settings.{sets, setting_turn}
use Rattle.monitor.specs.Store as store
use Rattle.monitor.specs.Table.{without_in, store_of}
use Rattle.monitor.specs.Lanes.{Lane, lane_of, for_requests, for_store, for_settings, word_of, laned, decides_in, setting_for, verdict_of, judged, lane_step}
use Rattle.monitor.specs.Step.{Lent, lent, turned, allowed_in, step_on}
use Rattle.monitor.specs.Laws.Lanes.{by_lanes}

-- the parts, the bytes of the items and what is said, each by itself
pub record Held : Type 0 where
  pub requests : Requests
  pub queues : Waiting
  pub tasks : Tasks
  pub items : List ℕ
  pub said : Said

abbrev pub held : Requests → Waiting → Tasks → List ℕ → Said → Held
held q s h b w = record { requests = q; queues = s; tasks = h; items = b; said = w }

abbrev pub held_of : Outcome Tables → Held
held_of o = held o.state.parts.requests o.state.parts.queues o.state.parts.tasks o.state.items (said o)

abbrev pub parts : Requests → Waiting → Tasks → Parts
parts q s h = record { requests = q; queues = s; tasks = h }

-- ---- the part of the lane: each part in turn is asked, or stays as it is

abbrev pub asked_of : Requests → Said → Asked
asked_of q w = record { requests = q; said = w }

abbrev pub stored_of : Waiting → Said → List ℕ → store.Lent
stored_of s w b = store.lent (record { queues = s; said = w }) b

abbrev pub made_of : Tasks → Said → Made
made_of h w = record { tasks = h; said = w }

abbrev pub asked_by : Lane → Tables → List ℕ → Asked
asked_by l t r =
    pick (for_requests l) (asks (interval.turn t.parts.requests (ask_of (command r) r)))
    (asked_of t.parts.requests (saying (word_of l) 0 []))

abbrev pub stored_by : Lane → Tables → List ℕ → Said → store.Lent
stored_by l t r w =
    pick (for_store l) (store.stores (queues.turn (store_of t) (store.store_ask (command r) r)))
    (stored_of t.parts.queues w t.items)

abbrev pub made_by : Lane → Tables → List ℕ → Said → Made
made_by l t r w = pick (for_settings l) (sets (setting_turn t.parts.tasks (command r) r)) (made_of t.parts.tasks w)

abbrev pub held_in : Asked → store.Lent → Made → Held
held_in a s m = held a.requests s.stored.queues m.tasks s.items m.said

module _ (l : Lane) (t : Tables) (r : List ℕ) where
  module _ {q : Requests} {w : Said} where
    pub asked_yes : (k : ℕ) (a : Asked) → for_requests l ≡ true → k ≡ command r → a ≡ asks (interval.turn t.parts.requests (ask_of k r))
        → q ≡ a.requests → w ≡ a.said → asked_of q w ≡ asked_by l t r
    asked_yes k a e ek ea eq ew = rw (eq, ew, ea, ek, e)

    -- ask ticks says what the register holds, and changes nothing
    pub asked_ticks : (x : Said) → for_requests l ≡ true → 4 ≡ command r → x ≡ saying 0 t.parts.requests.register []
        → q ≡ t.parts.requests → w ≡ x → asked_of q w ≡ asked_by l t r
    unfolding ask_of
    asked_ticks x e ek ex eq ew = rw (eq, ew, ex, sym ek, e)

    pub asked_not : for_requests l ≡ false → q ≡ t.parts.requests → w ≡ saying (word_of l) 0 [] → asked_of q w ≡ asked_by l t r
    asked_not e eq ew = rw (eq, ew, e)

  module _ (v : Said) {s : Waiting} {b : List ℕ} {w : Said} where
    pub stored_yes : (k : ℕ) (a : Stored) (c : List ℕ) → for_store l ≡ true → k ≡ command r → store.lent a c ≡ store.stores (queues.turn (store_of t) (store.store_ask k r))
        → s ≡ a.queues → b ≡ c → w ≡ a.said → stored_of s w b ≡ stored_by l t r v
    stored_yes k a c e ek ea es eb ew = rw (es, eb, ew, ea, ek, e)

    pub stored_not : for_store l ≡ false → s ≡ t.parts.queues → b ≡ t.items → w ≡ v → stored_of s w b ≡ stored_by l t r v
    stored_not e es eb ew = rw (es, eb, ew, e)

  module _ (v : Said) {h : Tasks} {w : Said} where
    pub made_yes : (k : ℕ) (a : Made) → for_settings l ≡ true → k ≡ command r → a ≡ sets (setting_turn t.parts.tasks k r)
        → h ≡ a.tasks → w ≡ a.said → made_of h w ≡ made_by l t r v
    made_yes k a e ek ea eh ew = rw (eh, ew, ea, ek, e)

    pub made_not : for_settings l ≡ false → h ≡ t.parts.tasks → w ≡ v → made_of h w ≡ made_by l t r v
    made_not e eh ew = rw (eh, ew, e)

-- and that is what the lane comes to
in_turn : (l : Lane) (t : Tables) (r : List ℕ) →
    let a = asked_by l t r in
    let s = stored_by l t r a.said in
    held_in a s (made_by l t r s.stored.said) ≡ held_of (laned l t r)
in_turn (Err Malformed) t r = refl
in_turn (Err Stranger) t r = refl
in_turn (Err Wrong) t r = refl
in_turn (Ok Interval) t r = refl
in_turn (Ok Finish) t r = refl
in_turn (Ok Queues) t r = refl
in_turn (Ok Settings) t r = refl

pub held_lane : (l : Lane) (t : Tables) (r : List ℕ) (a : Asked) (s : store.Lent) (m : Made)
    → a ≡ asked_by l t r → s ≡ stored_by l t r a.said → m ≡ made_by l t r s.stored.said → held_in a s m ≡ held_of (laned l t r)
held_lane l t r a s m ea es em =
    ap (held_in a s) em
    ∙ ap (λ (x : store.Lent). held_in a x (made_by l t r x.stored.said)) es
    ∙ ap (λ (x : Asked). let y = stored_by l t r x.said in held_in x y (made_by l t r y.stored.said)) ea
    ∙ in_turn l t r

-- ---- the handlers

abbrev pub held_setting : Lane → ℕ → Held → Setting
held_setting l n x = pick (decides_in l x.said.condition n) (decide_in x.tasks n x.said.condition) Ignore

abbrev pub held_end : Held → ℕ → Verdict → Bool → Lent Turned
held_end x n v true =
    lent (record { parts = without_in (parts x.requests x.queues x.tasks) n; answer = answering x.said (code_of v.action) (label_of v.action) }) x.items
held_end x n v false =
    lent (record { parts = parts x.requests x.queues x.tasks; answer = answering x.said (code_of v.action) (label_of v.action) }) x.items

module _ (l : Lane) (n : ℕ) (x : Held) (d : Bool) (e : d ≡ decides_in l x.said.condition n) {by : Setting} where
  pub decided : d ≡ true → by ≡ decide_in x.tasks n x.said.condition → by ≡ held_setting l n x
  decided f g = g ∙ ap (λ (y : Bool). pick y (decide_in x.tasks n x.said.condition) Ignore) (sym f ∙ e)

  pub undecided : d ≡ false → by ≡ Ignore → by ≡ held_setting l n x
  undecided f g = g ∙ ap (λ (y : Bool). pick y (decide_in x.tasks n x.said.condition) Ignore) (sym f ∙ e)

abbrev pub held_turned : Held → Requests → Tasks → Answer → Lent Turned
held_turned x q h a = lent (record { parts = parts q x.queues h; answer = a }) x.items

module _ (x : Held) (n : ℕ) (v : Verdict) {q : Requests} {h : Tasks} {a : Answer} (ea : a ≡ answering x.said (code_of v.action) (label_of v.action)) where
  pub ended : v.ends ≡ true → q ≡ remove_in x.requests n → h ≡ forget_in x.tasks n → held_turned x q h a ≡ held_end x n v v.ends
  ended f eq eh = rw (eq, eh, ea, f)

  pub went_on : v.ends ≡ false → q ≡ x.requests → h ≡ x.tasks → held_turned x q h a ≡ held_end x n v v.ends
  went_on f eq eh = rw (eq, eh, ea, f)

-- ---- the whole of it

ends_same : (n : ℕ) (o : Outcome Tables) (v : Verdict) → held_end (held_of o) n v v.ends ≡ turned (judged n o v)
ends_same n o v = by v.ends
  where
    by : (e : Bool) → held_end (held_of o) n v e ≡ turned (judged n o (record { action = v.action; ends = e }))
    by true = refl
    by false = refl

module _ (t : Tables) (r : List ℕ) (n : ℕ) (m : Bool) (l : Lane) (x : Held) (by : Setting) (v : Verdict) where
  pub held_step : n ≡ issuer r → m ≡ allowed_in t.parts r → l ≡ lane_of m n r → x ≡ held_of (laned l t r) → by ≡ held_setting l n x → v ≡ verdict_of l by
      → held_end x n v v.ends ≡ turned (step_on t r)
  unfolding lane_step
  held_step en em el ex eb ev =
      let o : Outcome Tables = laned l t r in
      let k : l ≡ lane_of (allowed_in t.parts r) (issuer r) r = el ∙ ap₂ (λ (y : Bool) (z : ℕ). lane_of y z r) em en in
      let f : by ≡ setting_for l n o = eb ∙ ap (held_setting l n) ex in
      let g : v ≡ verdict_of l (setting_for l n o) = ev ∙ ap (verdict_of l) f in
      ap (λ (y : Held). held_end y n v v.ends) ex
      ∙ ends_same n o v
      ∙ ap (λ (y : Verdict). turned (judged n o y)) g
      ∙ ap₂ (λ (y : Lane) (z : ℕ). turned (lane_step y z t r)) k en
      ∙ ap turned (sym (by_lanes t r))
