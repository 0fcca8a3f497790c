-- Starting keeps interval control sound: the new request is behind the others, and it is not active.
-- Assumes nothing.
use Rattle.std.specs.Prelude.{ℕ, suc, zero, ◌+◌, ◌^◌, ◌<◌, ◌≤◌, ◌≡◌, true, false, List, [], ◌∷◌, ◌++◌, map, length, ltb, eqb}
use Rattle.std.proofs.Math.Path.{refl, ap}
use Rattle.std.proofs.Common.{◌∙◌, arith, length-append}
use Rattle.std.proofs.Math.Bool.{not}
use borrow.Author.Tests.{leb-false, ltb-false, le-leb, lt-ltb, not-false}
use Rattle.base.specs.Lists.{has}
use Rattle.base.specs.Bytes.{blank, is_bytes}
use Rattle.base.specs.Laws.Tests.{and_i, or_false_l, or_false_r}
use Rattle.base.specs.Laws.Keep.{keep_snoc, all_append}
use Rattle.base.specs.Laws.Maps.{map-append}
use Rattle.base.specs.Laws.Counting.{has_map, once_snoc}
use Rattle.model.specs.Limits.{Limits}
use Rattle.model.specs.Plans.{first_of}
use Rattle.model.specs.Interval.{Request, Interval, Asked, is_active, active, known_request, begun, accepted, none_or_known, start, sound_phase, sound_request, sound_interval}
use Rattle.model.specs.Laws.PlanLaws.{clears}
use Rattle.model.proofs.Laws.SoundInterval.{view, put_requests, name_of, holder}

-- ---- the phase of a new request

begun_sound : (L : Limits) (c : ℕ) (b : List ℕ) (n : ℕ) → n ≤ L.interval → sound_phase L c b (begun c n) ≡ true
begun_sound L c b zero h = refl
begun_sound L c b (suc n) h = and_i (lt-ltb c (c + suc n) (omega arith)) (le-leb (c + suc n) (c + L.interval) (omega arith))

begun_inactive : (c n : ℕ) → is_active (begun c n) ≡ false
begun_inactive c zero = refl
begun_inactive c (suc n) = refl

module _ (L : Limits) (i : Interval) (a : Asked) where
  -- what the checks of a start have found out
  record Startable : Type 0 where
    not_blank : not (eqb a.name (blank 8)) ≡ true
    soon : a.interval ≤ L.interval
    short : length a.bytes ≤ L.item
    program : has a.program i.programs ≡ true
    terminal : none_or_known a.terminal i.terminals ≡ true
    fresh : known_request i.requests a.name ≡ false
    room : length i.requests < L.requests

  startable : first_of (start L i a).checks ≡ 0 → Startable
  unfolding start
  startable e =
      let c = clears (start L i a).checks refl e in
      record {
        not_blank = ap not (or_false_l (eqb a.name (blank 8)) (ltb L.interval a.interval) c.0);
        soon = ltb-false L.interval a.interval (or_false_r (eqb a.name (blank 8)) (ltb L.interval a.interval) c.0);
        short = ltb-false L.item (length a.bytes) c.1.0;
        program = not-false (has a.program i.programs) c.1.1.0;
        terminal = not-false (none_or_known a.terminal i.terminals) c.1.1.1.0;
        fresh = c.1.1.1.1.0;
        room = leb-false L.requests (length i.requests) c.1.1.1.1.1.0;
      }

  new_sound : a.name < 256 ^ 8 → is_bytes a.bytes ≡ true → Startable → sound_request L i (accepted i.clock a) ≡ true
  new_sound small bytes t =
      and_i (and_i (and_i (and_i (and_i (lt-ltb a.name (256 ^ 8) small) t.not_blank) t.program) t.terminal)
      (and_i (le-leb (length a.bytes) L.item t.short) bytes))
      (begun_sound L i.clock a.bytes a.interval t.soon)

pub start_sound : (L : Limits) (i : Interval) → sound_interval L i ≡ true → (a : Asked) → a.name < 256 ^ 8 → is_bytes a.bytes ≡ true
    → first_of (start L i a).checks ≡ 0 → sound_interval L (start L i a).effect.state ≡ true
unfolding start
start_sound L i s a small bytes e =
    let t = startable L i a e in
    let v = (view s).requests in
    let l : List Request = i.requests in
    let new : Request = accepted i.clock a in
    let unused : has a.name (map name_of l) ≡ false = has_map name_of a.name l ∙ t.fresh in
    let idle : active new ≡ false = begun_inactive i.clock a.interval in
    put_requests L i i.clock (l ++ (new ∷ [])) s
    (record {
      fit = simp length-append (omega (arith, t.room));
      unique = rw (map-append name_of l (new ∷ [])) (once_snoc a.name (map name_of l) unused v.unique);
      sound = rw (all_append (sound_request L i) l (new ∷ []), v.sound) (and_i (new_sound L i a small bytes t) refl);
      runs = rw (keep_snoc active l new idle) v.runs;
      holds = rw (keep_snoc holder l new (rw idle)) v.holds;
    })
