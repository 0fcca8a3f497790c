-- Who is active stays active under every command of interval control, and under the removal of another.
-- Assumes nothing.
use Prim.Native.Nat.{ℕ, ◌+◌}
use Rattle.std.specs.Prelude.{◌≡◌, Bool, not, ◌&&◌, ◌||◌, List, [], ◌∷◌, eqb}
use Rattle.std.proofs.Math.Path.{refl}
use Rattle.std.proofs.Common.{sym, ap, subst, ◌∙◌}
use Rattle.std.proofs.Math.Bool.{true, false}
use borrow.Author.Tests.{eqb-true, not-false}
use Rattle.base.specs.Choice.{pick}
use Rattle.base.specs.Lists.{keep, any, first, first_at}
use Rattle.base.specs.Laws.Tests.{no, and_l, and_r, or_false_r, is_false, eqb_same, pick_elim}
use Rattle.base.specs.Laws.Keep.{any_more, any_kept_imp, any_first_any, first_passes}
use Rattle.base.specs.Laws.Maps.{any_map_imp}
use Rattle.base.specs.Laws.Counting.{all_named, first_named}
use Rattle.model.specs.Limits.{Limits, some}
use Rattle.model.specs.Plans.{Outcome, Plan, first_of, cut}
use Rattle.model.specs.Interval.{Phase, Waiting, Expired, Active, Request, Interval, Asked, in_phase, is_due, is_active, is_expired, expired, active, no_request, known_request, request_of, active_task, at_request, remove, accepted, line, startable, started, none_startable, has_own, serves, server, took_own, define_program, define_terminal, advance, ask_ticks, dispatch, start, cancel, retrieve, sound_interval}
use Rattle.model.specs.Laws.PlanLaws.{clears}
use Rattle.model.proofs.Laws.SoundInterval.{view, name_of}
use Rattle.model.proofs.Laws.SoundAdvance.{stays, fallen}

-- ---- the steps

abbrev is : ℕ → Request → Bool
is n q = active q && eqb q.name n

active_stays : (c : ℕ) (p : Phase) → is_active p ≡ true → not (is_due c p) ≡ true
active_stays c (Waiting d) e = no e
active_stays c Expired e = refl
active_stays c (Active t) e = refl

-- who is made active is active
changed : (n m : ℕ) (taken : Bool) (q : Request) → is n q ≡ true → is n (pick (eqb q.name m) (in_phase (Active taken) q) q) ≡ true
changed n m taken q e =
    pick_elim (λ (r : Request). is n r ≡ true) (eqb q.name m) (in_phase (Active taken) q) q (λ _. and_r (active q) (eqb q.name n) e) (λ _. e)

any_changed : (n m : ℕ) (taken : Bool) (l : List Request) → any (is n) l ≡ true → any (is n) (at_request m (in_phase (Active taken)) l) ≡ true
any_changed n m taken = any_map_imp (λ (q : Request). pick (eqb q.name m) (in_phase (Active taken) q) q) (is n) (is n) (changed n m taken)

expired_idle : (p : Phase) → is_expired p ≡ true → is_active p ≡ false
expired_idle (Waiting d) e = refl
expired_idle Expired e = refl
expired_idle (Active t) e = no e

-- ---- the commands

-- who is active before the plan's effect is so after it
abbrev pub StayActive : Interval → Plan Interval → Type 0
StayActive i p = (n : ℕ) → active_task i n ≡ true → first_of p.checks ≡ 0 → active_task p.effect.state n ≡ true

pub remove_active : (i : Interval) (m n : ℕ) → eqb n m ≡ false → active_task i n ≡ true → active_task (remove i m) n ≡ true
remove_active i m n d = any_kept_imp (is n) (λ (q : Request). not (eqb q.name m)) other i.requests
  where
    other : (q : Request) → is n q ≡ true → not (eqb q.name m) ≡ true
    other q e = ap not (subst (λ (k : ℕ). eqb k m ≡ false) (sym (eqb-true q.name n (and_r (active q) (eqb q.name n) e))) d)

-- the removed one is not active
remove_idle : (i : Interval) (m n : ℕ) → active_task i m ≡ false → active_task i n ≡ true → active_task (remove i m) n ≡ true
remove_idle i m n idle a =
    remove_active i m n
    (is_false (eqb n m) (λ t. no (sym idle ∙ subst (λ (k : ℕ). active_task i k ≡ true) (eqb-true n m t) a))) a

module _ (L : Limits) (i : Interval) where
  pub program_active : (m : ℕ) → StayActive i (define_program L i m)
  unfolding define_program
  program_active m n a e = a

  pub terminal_active : (m : ℕ) → StayActive i (define_terminal L i m)
  unfolding define_terminal
  terminal_active m n a e = a

  pub advance_active : (ticks : ℕ) → StayActive i (advance L i ticks)
  unfolding advance
  advance_active ticks n a e =
      let c : ℕ = i.clock + ticks in
      any_more (is n) (keep (stays c) i.requests) (fallen c i.requests)
      (any_kept_imp (is n) (stays c) (λ q h. active_stays c q.phase (and_l (active q) (eqb q.name n) h)) i.requests a)

  pub start_active : (w : Asked) → StayActive i (start L i w)
  unfolding start
  start_active w n a e = any_more (is n) i.requests (accepted i.clock w ∷ []) a

module _ (i : Interval) where
  pub ask_active : StayActive i (ask_ticks i)
  unfolding ask_ticks
  ask_active n a e = a

  pub dispatch_active : StayActive i (dispatch i)
  unfolding dispatch
  dispatch_active n a e =
      pick_elim (λ (o : Outcome Interval). active_task o.state n ≡ true) (any (startable i) (line i))
      (started i (first (startable i) no_request (line i)) (first_at (startable i) (line i))) (none_startable i)
      (λ _. any_changed n (first (startable i) no_request (line i)).name false i.requests a) (λ _. a)

  pub cancel_active : (m : ℕ) → StayActive i (cancel i m)
  unfolding cancel
  cancel_active m n a e =
      let c = clears (cancel i m).checks refl e in
      remove_idle i m n (or_false_r (not (known_request i.requests m)) (active_task i m) c.1.0) a

module _ (L : Limits) (i : Interval) (s : sound_interval L i ≡ true) where
  serves_expired : (t q : Request) → serves t q ≡ true → expired q ≡ true
  serves_expired t q e =
      and_l (expired q) (eqb q.program t.program)
      (and_l (expired q && eqb q.program t.program) (eqb q.terminal t.terminal)
      (and_l (expired q && eqb q.program t.program && eqb q.terminal t.terminal) (some q.bytes) e))

  -- a server is expired, and no other has its name
  server_idle : (t : Request) → any (serves t) i.requests ≡ true → active_task i (server i t).name ≡ false
  server_idle t h =
      let l : List Request = i.requests in
      let q : Request = server i t in
      let o = (view s).requests.unique in
      let known = any_first_any (serves t) (λ (x : Request). eqb x.name q.name) no_request l h (eqb_same q.name) in
      all_named name_of q.name no_request active l o known
      ∙ ap active (first_named name_of (serves t) no_request l o h)
      ∙ expired_idle q.phase (serves_expired t q (first_passes (serves t) no_request l h))

  pub retrieve_active : (m room : ℕ) → StayActive i (retrieve i m room)
  unfolding retrieve
  retrieve_active m room n a e =
      let t : Request = request_of i.requests m in
      let c = clears (retrieve i m room).checks refl e in
      let found : (has_own t || any (serves t) i.requests) ≡ true = not-false (has_own t || any (serves t) i.requests) c.0 in
      pick_elim (λ (o : Outcome Interval). active_task o.state n ≡ true) (has_own t)
      (cut (took_own i m) room t.bytes) (cut (remove i (server i t).name) room (server i t).bytes)
      (λ _. any_changed n m true i.requests a)
      (λ none. remove_idle i (server i t).name n (server_idle t (rw none at found)) a)
