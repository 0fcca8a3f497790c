-- Dispatch and retrieve keep interval control sound: what dispatch starts finds its program and its terminal free, who has its own
-- data marked taken has some, and a server is removed.
-- Assumes nothing.
use Rattle.std.specs.Prelude.{ℕ, ◌≡◌, refl, Bool, true, false, not, ◌&&◌, ◌||◌, List, map, eqb}
use Rattle.std.proofs.Common.{sym, ◌∙◌}
use Rattle.std.proofs.lemmas.List.{length-map}
use Rattle.std.proofs.lemmas.Bool.{not-true}
use Rattle.base.specs.Choice.{pick}
use Rattle.base.specs.Lists.{keep, any, first, first_at, has}
use Rattle.base.specs.Bytes.{blank}
use Rattle.base.specs.Laws.Tests.{by_test, no, and_l, and_r, and_i, and_false_l, eqb_same, pick_elim}
use Rattle.base.specs.Laws.Keep.{any_keep, none_imp, all_first, first_in, first_none, first_passes, any_first_any}
use Rattle.base.specs.Laws.Counting.{has_map, map_at_names, first_named, all_at, once_at}
use Rattle.model.specs.Limits.{Limits, some}
use Rattle.model.specs.Plans.{Outcome, first_of, cut}
use Rattle.model.specs.Interval.{Phase, Waiting, Expired, Active, Request, Interval, with_requests, in_phase, is_active, not_taken, expired, active, no_request, known_request, request_of, at_request, remove, line, startable, started, none_startable, dispatch, has_own, server, took_own, retrieve, sound_phase, sound_request, sound_interval}
use Rattle.model.proofs.Laws.SoundInterval.{view, in_phase_lem, put_requests, remove_sound, name_of, program_of, terminal_of, holder}

-- ---- a request becomes active, or its data taken

-- no active task has that number
abbrev free : (Request → ℕ) → ℕ → List Request → Bool
free f n l = not (any (λ (a : Request). active a && eqb (f a) n) l)

free_program : (n : ℕ) (l : List Request) → free program_of n l ≡ true → has n (map program_of (keep active l)) ≡ false
free_program n l h = has_map program_of n (keep active l) ∙ any_keep (λ (a : Request). eqb a.program n) active l ∙ not-true _ h

free_terminal : (n : ℕ) (l : List Request) → free terminal_of n l ≡ true → has n (map terminal_of (keep holder l)) ≡ false
free_terminal n l h =
    has_map terminal_of n (keep holder l) ∙ any_keep (λ (a : Request). eqb a.terminal n) holder l
    ∙ none_imp (λ (a : Request). holder a && eqb a.terminal n) (λ (a : Request). active a && eqb a.terminal n) imp l (not-true _ h)
  where
    imp : (a : Request) → (holder a && eqb a.terminal n) ≡ true → (active a && eqb a.terminal n) ≡ true
    imp a e =
        and_i (and_l (active a) (not (eqb a.terminal (blank 4))) (and_l (holder a) (eqb a.terminal n) e)) (and_r (holder a) (eqb a.terminal n) e)

not_taken_active : (p : Phase) → not_taken p ≡ true → is_active p ≡ true
not_taken_active (Waiting d) e = e
not_taken_active Expired e = e
not_taken_active (Active t) e = refl

module _ (L : Limits) (i : Interval) (s : sound_interval L i ≡ true) where
  abbrev theirs : ℕ → Request
  theirs n = request_of i.requests n

  -- what allows the request of a name to be active, its data taken or not
  record May (n : ℕ) (taken : Bool) : Type 0 where
    known : known_request i.requests n ≡ true
    data_there : sound_phase L i.clock (theirs n).bytes (Active taken) ≡ true
    program_free : active (theirs n) ≡ false → free program_of (theirs n).program i.requests ≡ true
    terminal_free : active (theirs n) ≡ false → eqb (theirs n).terminal (blank 4) ≡ false → free terminal_of (theirs n).terminal i.requests ≡ true

  activated : (n : ℕ) (taken : Bool) → May n taken → sound_interval L (with_requests i (at_request n (in_phase (Active taken)) i.requests)) ≡ true
  activated n taken m =
      let v = (view s).requests in
      let o = v.unique in
      let l : List Request = i.requests in
      let q : Request = theirs n in
      let become : Request → Request = in_phase (Active taken) in
      let there : sound_request L i q ≡ true = all_first (λ (x : Request). eqb x.name n) (sound_request L i) no_request l v.sound m.known in
      put_requests L i i.clock (at_request n become l) s
      (record {
        fit = rw (length-map l (λ (x : Request). pick (eqb x.name n) (in_phase (Active taken) x) x)) v.fit;
        unique = rw (map_at_names name_of become n (λ x. refl) l) o;
        sound = all_at name_of n no_request become (sound_request L i) l o v.sound (in_phase_lem L i i.clock q (Active taken) m.data_there there);
        runs =
            once_at name_of n no_request become active program_of (λ x. refl) l o m.known
            (λ e t. free_program q.program l (m.program_free e)) v.runs;
        holds =
            once_at name_of n no_request become holder terminal_of (λ x. refl) l o m.known
            (λ e t. free_terminal q.terminal l (m.terminal_free (and_false_l (active q) _ e t) (not-true _ t))) v.holds;
      })

  -- ---- dispatch

  -- in the line and startable
  abbrev ready : Request → Bool
  ready q = expired q && startable i q

  may_start : (q : Request) → theirs q.name ≡ q → known_request i.requests q.name ≡ true → startable i q ≡ true → May q.name false
  may_start q same k t =
      let p = and_r (eqb q.terminal (blank 4) || free terminal_of q.terminal i.requests) (free program_of q.program i.requests) t in
      let h = and_l (eqb q.terminal (blank 4) || free terminal_of q.terminal i.requests) (free program_of q.program i.requests) t in
      record { known = k; data_there = refl; program_free = λ _. rw same p; terminal_free = λ _. rw same (λ b. rw b at h) }

  starts : any ready i.requests ≡ true → (passed : ℕ) → sound_interval L (started i (first ready no_request i.requests) passed).state ≡ true
  starts h passed =
      let l : List Request = i.requests in
      let q : Request = first ready no_request i.requests in
      activated q.name false
      (may_start q (first_named name_of ready no_request l (view s).requests.unique h)
      (any_first_any ready (λ (x : Request). eqb x.name q.name) no_request l h (eqb_same q.name))
      (and_r (expired q) (startable i q) (first_passes ready no_request l h)))

  pub dispatch_sound : first_of (dispatch i).checks ≡ 0 → sound_interval L (dispatch i).effect.state ≡ true
  unfolding dispatch
  dispatch_sound e =
      rw (first_in (startable i) expired no_request i.requests)
      (pick_elim (λ (o : Outcome Interval). sound_interval L o.state ≡ true) (any (startable i) (line i)) _ (none_startable i)
      (λ t. starts (sym (any_keep (startable i) expired i.requests) ∙ t) (first_at (startable i) (line i))) (λ _. s))

  -- ---- retrieve

  own_known : (n : ℕ) → has_own (theirs n) ≡ true → known_request i.requests n ≡ true
  own_known n h =
      by_test (known_request i.requests n) (λ e. e)
      (λ e. no (rw (first_none (λ (q : Request). eqb q.name n) no_request i.requests e) at h))

  takes : (n : ℕ) → has_own (theirs n) ≡ true → sound_interval L (took_own i n) ≡ true
  takes n h =
      let is : active (theirs n) ≡ true = not_taken_active (theirs n).phase (and_l (not_taken (theirs n).phase) (some (theirs n).bytes) h) in
      activated n true
      (record {
        known = own_known n h;
        data_there = and_r (not_taken (theirs n).phase) (some (theirs n).bytes) h;
        program_free = λ e. no (sym e ∙ is);
        terminal_free = λ e. no (sym e ∙ is);
      })

  pub retrieve_sound : (n room : ℕ) → first_of (retrieve i n room).checks ≡ 0 → sound_interval L (retrieve i n room).effect.state ≡ true
  unfolding retrieve
  retrieve_sound n room e =
      pick_elim (λ (o : Outcome Interval). sound_interval L o.state ≡ true) (has_own (theirs n))
      (cut (took_own i n) room (theirs n).bytes) (cut (remove i (server i (theirs n)).name) room (server i (theirs n)).bytes)
      (λ h. takes n h) (λ _. remove_sound L i s (server i (theirs n)).name)
