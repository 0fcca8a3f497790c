-- The operations on queues, any number of them one after the other: from words that fit, are typed and sound, and so from fresh ones, the outcomes are
-- those of the model, and the words that are left stand for the model's queues, and fit and are typed and sound. Assumes nothing.
use Rattle.std.specs.Prelude.{◌≡◌, refl, Bool, true, ◌&&◌, List, [], ◌∷◌, ℕ, ◌^◌, ltb}
use Rattle.std.proofs.Common.{ap, ap₂, ◌∙◌, ltb-true}
use Rattle.base.specs.Lists.{all}
use Rattle.base.specs.Bytes.{is_bytes}
use Rattle.base.specs.Laws.Tests.{both}
use Rattle.model.specs.Limits.{Limits, sized}
use Rattle.model.specs.Plans.{Outcome, Plan, first_of, obey, outcome_in, Follows}
use Rattle.model.specs.Queues as model
use Rattle.model.specs.Queues.{Queue}
use Rattle.queue_rows.specs.Table.{slots_in, Store, store}
use Rattle.queue_rows.specs.Model.{queues_of, limits_of}
use Rattle.queue_rows.specs.Sound.{SoundS}
use Rattle.queue_rows.specs.Fresh.{fresh_of}
use Rattle.queue_rows.specs.Append.{append_to}
use Rattle.queue_rows.specs.Read.{read_in, read_next_in}
use Rattle.queue_rows.specs.Rewrite.{rewrite_in}
use Rattle.queue_rows.specs.Delete.{delete_from}
use Rattle.queue_rows.specs.Laws.Typed.{Fits, Typed}
use Rattle.queue_rows.specs.Laws.Fresh.{fresh_stands}
use Rattle.queue_rows.specs.Laws.Append.{append_follows}
use Rattle.queue_rows.specs.Laws.Read.{at_follows, next_follows}
use Rattle.queue_rows.specs.Laws.Rewrite.{rewrite_follows}
use Rattle.queue_rows.specs.Laws.Delete.{delete_follows}
use Rattle.queue_rows.specs.Laws.Kept.{Kept, fresh_kept, append_kept, at_kept, next_kept, rewrite_kept, delete_kept}

-- ---- what is asked

-- commands 10 to 14
pub data Ask : Type 0 where
  -- an item, for the queue of a name
  Append : ℕ → List ℕ → Ask
  -- the next item of a queue, into so much room
  Next : ℕ → ℕ → Ask
  -- the item at a place, into so much room
  At : ℕ → ℕ → ℕ → Ask
  -- another item, at a place
  Rewrite : ℕ → ℕ → List ℕ → Ask
  Delete : ℕ → Ask

-- a name of 8 bytes and an item of bytes, where they are stored
abbrev pub asked : Ask → Bool
asked (Append n x) = ltb n (2 ^ 64) && is_bytes x
asked (Next n room) = true
asked (At n p room) = true
asked (Rewrite n p x) = is_bytes x
asked (Delete n) = true

-- ---- a turn of the words, and one of the model

-- by the definitions that the contracts cite; all slots may be filled
abbrev pub turn : Store → Ask → Outcome Store
turn s (Append n x) = append_to s.queues s.items (slots_in s.queues) n x
turn s (Next n room) = outcome_in (λ q. store q s.items) (read_next_in s.queues s.items n room)
turn s (At n p room) = outcome_in (λ q. store q s.items) (read_in s.queues s.items n p room)
turn s (Rewrite n p x) = rewrite_in s.queues s.items n p x
turn s (Delete n) = outcome_in (λ q. store q s.items) (delete_from s.queues n)

abbrev pub plan_of : Limits → List Queue → Ask → Plan (List Queue)
plan_of L l (Append n x) = model.append L L.slots l n x
plan_of L l (Next n room) = model.read_next l n room
plan_of L l (At n p room) = model.read_at l n p room
plan_of L l (Rewrite n p x) = model.rewrite L l n p x
plan_of L l (Delete n) = model.delete l n

abbrev pub obeyed : Limits → List Queue → Ask → Outcome (List Queue)
obeyed L l a = obey l (first_of (plan_of L l a).checks) (plan_of L l a).effect

-- ---- one after the other

-- what the asker sees
pub record Reply : Type 0 where
  pub condition : ℕ
  pub number : ℕ
  pub bytes : List ℕ

abbrev pub reply : {S : Type 0} → Outcome S → Reply
reply o = record { condition = o.condition; number = o.number; bytes = o.bytes }

module _ {S : Type 0} (step : S → Ask → Outcome S) where
  abbrev pub replies : S → List Ask → List Reply
  replies s [] = []
  replies s (a ∷ l) = reply (step s a) ∷ replies (step s a).state l

  abbrev pub after : S → List Ask → S
  after s [] = s
  after s (a ∷ l) = after (step s a).state l

-- ---- one turn

pub record Good (s : Store) : Type 0 where
  pub fits : Fits s.queues s.items
  pub typed : Typed s
  pub soundly : SoundS s

-- the model's turn; and what is known of the words is kept
pub record Turned (s : Store) (a : Ask) : Type 0 where
  pub follows : Follows queues_of SoundS (turn s a) (queues_of s) (plan_of (limits_of s.queues) (queues_of s) a)
  pub kept : Kept s (turn s a).state

pub turns : (s : Store) (a : Ask) → Good s → asked a ≡ true → Turned s a
turns s (Append n x) g h =
    let c = both (ltb n (2 ^ 64)) (is_bytes x) h in
    record {
      follows = append_follows s g.fits g.soundly n x;
      kept = append_kept s g.fits g.typed (slots_in s.queues) n x (ltb-true n (2 ^ 64) c.0) c.1;
    }
turns s (Next n room) g h =
    record { follows = next_follows s g.fits g.soundly n room; kept = next_kept s g.fits g.typed n room }
turns s (At n p room) g h =
    record { follows = at_follows s g.fits g.soundly n p room; kept = at_kept s g.fits g.typed n p room }
turns s (Rewrite n p x) g h =
    record { follows = rewrite_follows s g.fits g.soundly n p x; kept = rewrite_kept s g.fits g.typed n p x h }
turns s (Delete n) g h =
    record { follows = delete_follows s g.fits g.soundly n; kept = delete_kept s g.fits g.typed n }

-- ---- any number of turns

-- the limits stay what they were
same_limits : (s r : Store) → Kept s r → limits_of r.queues ≡ limits_of s.queues
same_limits s r k = ap₂ (sized 0 0 0) k.rows k.slots

pub record Ran (L : Limits) (s : Store) (l : List Ask) : Type 0 where
  pub outcomes : replies turn s l ≡ replies (obeyed L) (queues_of s) l
  pub stands : queues_of (after turn s l) ≡ after (obeyed L) (queues_of s) l
  pub good : Good (after turn s l)
  pub limits : limits_of (after turn s l).queues ≡ L

-- as the turn said, and from where it led
abbrev seen : Limits → List Ask → Outcome (List Queue) → List Reply
seen L l o = reply o ∷ replies (obeyed L) o.state l

pub runs : (L : Limits) (s : Store) (l : List Ask) → limits_of s.queues ≡ L → Good s → all asked l ≡ true → Ran L s l
runs L s [] e g h = record { outcomes = refl; stands = refl; good = g; limits = e }
runs L s (a ∷ l) e g h =
    let c = both (asked a) (all asked l) h in
    let t = turns s a g c.0 in
    let o = turn s a in
    let good : Good o.state = record { fits = t.kept.fits; typed = t.kept.typed; soundly = t.follows.soundly } in
    let r = runs L o.state l (same_limits s o.state t.kept ∙ e) good c.1 in
    let same : outcome_in queues_of o ≡ obeyed L (queues_of s) a = t.follows.outcome ∙ ap (λ (M : Limits). obeyed M (queues_of s) a) e in
    record {
      outcomes = ap (λ (x : List Reply). reply o ∷ x) r.outcomes ∙ ap (seen L l) same;
      stands = r.stands ∙ ap (λ (x : Outcome (List Queue)). after (obeyed L) x.state l) same;
      good = r.good;
      limits = r.limits;
    }

-- ---- from fresh queues

pub record RanFresh (s : Store) (l : List Ask) : Type 0 where
  pub outcomes : replies turn (store (fresh_of s.queues) s.items) l ≡ replies (obeyed (limits_of s.queues)) [] l
  pub stands : queues_of (after turn (store (fresh_of s.queues) s.items) l) ≡ after (obeyed (limits_of s.queues)) [] l
  pub good : Good (after turn (store (fresh_of s.queues) s.items) l)

-- whatever words and bytes are lent
pub runs_fresh : (s : Store) (l : List Ask) → Fits s.queues s.items → Typed s → all asked l ≡ true → RanFresh s l
runs_fresh s l f t h =
    let L = limits_of s.queues in
    let r = store (fresh_of s.queues) s.items in
    let k = fresh_kept s f t in
    let e = fresh_stands s.queues s.items in
    let g : Good r = record { fits = k.fits; typed = k.typed; soundly = e.0 } in
    let ran = runs L r l (same_limits s r k) g h in
    record {
      outcomes = ran.outcomes ∙ ap (λ (x : List Queue). replies (obeyed L) x l) e.1;
      stands = ran.stands ∙ ap (λ (x : List Queue). after (obeyed L) x l) e.1;
      good = ran.good;
    }
