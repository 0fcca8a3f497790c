-- The operations on queues, any number of them one after the other: from typed and sound queues, and so from fresh ones, the outcomes are
-- those of the model, and the struct that is left stands for the model's queues and is typed and sound. Assumes nothing.
use Rattle.std.specs.Prelude.{◌≡◌, refl, true, List, [], ◌∷◌, ℕ, ◌^◌, ◌<◌, ltb, length}
use Rattle.std.proofs.Common.{ap, ◌∙◌, arith, ltb-true}
use Rattle.base.specs.Lists.{all}
use Rattle.base.specs.Bytes.{is_bytes}
use Rattle.base.specs.Laws.Tests.{and_l, and_r}
use Rattle.model.specs.Plans.{Outcome, outcome_in}
use Rattle.model.specs.Queues.{Queue}
use Rattle.queues.specs.Sound.{sound_q}
use Rattle.queues.specs.Fresh.{fresh}
use Rattle.queues.specs.Read.{read_in, read_next_in}
use Rattle.queues.specs.Rewrite.{rewrite_in}
use Rattle.queues.specs.Delete.{delete_from}
use Rattle.queues.specs.Runs.{Ask, Append, Next, At, Rewrite, Delete, asked, Store, store, queues_in, turn, obeyed, Reply, reply, replies, after}
use Rattle.queues.specs.Laws.Stands.{holds}
use Rattle.queues.specs.Laws.Fresh.{fresh_empty, fresh_typed}
use Rattle.queues.proofs.Laws.Append.{append_meets}
use Rattle.queues.specs.Laws.Read.{read_at_all, read_next_all}
use Rattle.queues.proofs.Laws.Rewrite.{rewrite_all}
use Rattle.queues.proofs.Laws.Delete.{delete_meets}
use Rattle.queues.proofs.Laws.Kept.{Kept, append_kept, read_typed, next_typed, rewrite_kept, delete_typed}

-- ---- one turn

-- typed, sound, and 8,192 bytes
pub record Good (s : Store) : Type 0 where
  pub kept : Kept s.queues s.items
  pub soundly : sound_q s.queues ≡ true

-- the model's turn, and good again
pub record Turned (s : Store) (a : Ask) : Type 0 where
  pub outcome : outcome_in queues_in (turn s a) ≡ obeyed (queues_in s) a
  pub good : Good (turn s a).state

pub turns : (s : Store) (a : Ask) → Good s → asked a ≡ true → Turned s a
unfolding read_next_in
turns s (Append n x) g h =
    let q = s.queues in
    let b = s.items in
    let w : n < 2 ^ 64 = ltb-true n (2 ^ 64) (and_l (ltb n (2 ^ 64)) (is_bytes x) h) in
    let d = append_meets q b 128 n x g.kept.typed w g.kept.long g.soundly (omega arith) in
    let k = append_kept q b g.kept n x (and_r (ltb n (2 ^ 64)) (is_bytes x) h) (holds q g.soundly) w 128 in
    record { outcome = d.outcome; good = record { kept = k; soundly = d.soundly } }
turns s (Next n room) g h =
    let q = s.queues in
    let b = s.items in
    let d = (read_next_all q g.kept.typed n room (read_next_in q n room) refl).1.0 g.soundly b g.kept.long in
    record {
      outcome = d.outcome;
      good = record { kept = record { typed = next_typed q g.kept.typed n room; long = g.kept.long; bytes = g.kept.bytes }; soundly = d.soundly };
    }
turns s (At n p room) g h =
    let q = s.queues in
    let b = s.items in
    let d = (read_at_all q g.kept.typed n room (read_in q n p room) p refl).1.0 g.soundly b g.kept.long in
    record {
      outcome = d.outcome;
      good = record { kept = record { typed = read_typed q g.kept.typed n p room; long = g.kept.long; bytes = g.kept.bytes }; soundly = d.soundly };
    }
turns s (Rewrite n p x) g h =
    let q = s.queues in
    let b = s.items in
    let r = rewrite_in q b n p x in
    let d = (rewrite_all q g.kept.typed b g.kept.long n p x r.rewritten r.items refl).1 g.soundly in
    let k = rewrite_kept q b g.kept n x (and_r (ltb n (2 ^ 64)) (is_bytes x) h) p in
    record { outcome = d.outcome; good = record { kept = k; soundly = d.soundly } }
turns s (Delete n) g h =
    let q = s.queues in
    let b = s.items in
    let t = delete_typed q g.kept.typed n in
    let d = delete_meets q n g.kept.typed g.soundly b (delete_from q n) t refl in
    record {
      outcome = d.outcome;
      good = record { kept = record { typed = t; long = g.kept.long; bytes = g.kept.bytes }; soundly = d.soundly };
    }

-- ---- any number of turns

pub record Ran (s : Store) (l : List Ask) : Type 0 where
  pub outcomes : replies turn s l ≡ replies obeyed (queues_in s) l
  pub stands : queues_in (after turn s l) ≡ after obeyed (queues_in s) l
  pub good : Good (after turn s l)

-- as the turn said, and from where it led
abbrev seen : List Ask → Outcome (List Queue) → List Reply
seen l o = reply o.condition o.number o.bytes ∷ replies obeyed o.state l

pub runs : (s : Store) (l : List Ask) → Good s → all asked l ≡ true → Ran s l
runs s [] g h = record { outcomes = refl; stands = refl; good = g }
runs s (a ∷ l) g h =
    let t = turns s a g (and_l (asked a) (all asked l) h) in
    let r = runs (turn s a).state l t.good (and_r (asked a) (all asked l) h) in
    let o = turn s a in
    record {
      outcomes = ap (λ (x : List Reply). reply o.condition o.number o.bytes ∷ x) r.outcomes ∙ ap (seen l) t.outcome;
      stands = r.stands ∙ ap (λ (x : Outcome (List Queue)). after obeyed x.state l) t.outcome;
      good = r.good;
    }

-- ---- from fresh queues

pub record RanFresh (b : List ℕ) (l : List Ask) : Type 0 where
  pub outcomes : replies turn (store fresh b) l ≡ replies obeyed [] l
  pub stands : queues_in (after turn (store fresh b) l) ≡ after obeyed [] l
  pub good : Good (after turn (store fresh b) l)

-- whatever 8,192 bytes are lent
pub runs_fresh : (b : List ℕ) (l : List Ask) → length b ≡ 8192 → is_bytes b ≡ true → all asked l ≡ true → RanFresh b l
runs_fresh b l long y h =
    let r = runs (store fresh b) l (record { kept = record { typed = fresh_typed; long = long; bytes = y }; soundly = fresh_empty.soundly }) h in
    let e = fresh_empty.nothing b in
    record {
      outcomes = r.outcomes ∙ ap (λ (x : List Queue). replies obeyed x l) e;
      stands = r.stands ∙ ap (λ (x : List Queue). after obeyed x l) e;
      good = r.good;
    }
