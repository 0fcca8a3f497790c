-- Document 01, "Examples to prove": P4 to P7, of the struct, as one table under one statement. The model's side is computed by the checker,
-- and the struct's is the model's by `runs_fresh`. Assumes nothing.
use Rattle.std.specs.Prelude.{ℕ, ◌≡◌, refl, true, List, [], ◌∷◌, map, length, replicate}
use Rattle.std.proofs.Common.{◌∙◌}
use Rattle.base.specs.Lists.{all}
use Rattle.base.specs.Bytes.{is_bytes}
use Rattle.base.specs.Laws.Maps.{map_all_same}
use Rattle.model.specs.Queues.{append, read_next, read_at, rewrite}
use Rattle.queues.specs.Fresh.{fresh}
use Rattle.queues.specs.Runs.{Ask, Append, Next, At, Rewrite, asked, store, turn, obeyed, Reply, reply, replies}
use Rattle.queues.proofs.Laws.Runs.{runs_fresh}

pub record Case : Type 0 where
  pub asks : List Ask
  pub wanted : List Reply

abbrev pub case : List Ask → List Reply → Case
case l w = record { asks = l; wanted = w }

-- condition 0 with a number, and with bytes besides; a condition alone
abbrev pub ok : ℕ → Reply
ok n = reply 0 n []

abbrev pub gives : ℕ → List ℕ → Reply
gives n x = reply 0 n x

abbrev pub plain : ℕ → Reply
plain c = reply c 0 []

-- a queue
abbrev pub Q : ℕ
Q = 0x5252525252525201

-- "P4 item of 64 bytes accepted, 65 and 0 get 4."
abbrev pub p4 : Case
p4 = case (Append Q (replicate 64 7) ∷ Append Q (replicate 65 7) ∷ Append Q [] ∷ []) (ok 1 ∷ plain 4 ∷ plain 4 ∷ [])

-- "P5 place 0 and place count+1 get 3."
abbrev pub p5 : Case
p5 = case (Append Q (7 ∷ []) ∷ At Q 0 9 ∷ At Q 2 9 ∷ Rewrite Q 0 (8 ∷ []) ∷ Rewrite Q 2 (8 ∷ []) ∷ [])
    (ok 1 ∷ plain 3 ∷ plain 3 ∷ plain 3 ∷ plain 3 ∷ [])

-- "P6 in a queue of two, read next after the last gets 3; after a read at 1 it gives item 2."
abbrev pub p6 : Case
p6 = case (Append Q (7 ∷ []) ∷ Append Q (8 ∷ 9 ∷ []) ∷ Next Q 9 ∷ Next Q 9 ∷ Next Q 9 ∷ At Q 1 9 ∷ Next Q 9 ∷ [])
    (ok 1 ∷ ok 2 ∷ gives 1 (7 ∷ []) ∷ gives 2 (8 ∷ 9 ∷ []) ∷ plain 3 ∷ gives 1 (7 ∷ []) ∷ gives 2 (8 ∷ 9 ∷ []) ∷ [])

-- "P7 room 0 on a 1-byte item: 4, number 1, no bytes, pointer moved."
abbrev pub p7 : Case
p7 = case (Append Q (7 ∷ []) ∷ Next Q 0 ∷ Next Q 9 ∷ []) (ok 1 ∷ reply 4 1 [] ∷ plain 3 ∷ [])

abbrev pub examples : List Case
examples = p4 ∷ p5 ∷ p6 ∷ p7 ∷ []

-- ---- the statement

abbrev pub modelled : Case → List Reply
modelled c = replies obeyed [] c.asks

all_modelled : map modelled examples ≡ map (λ (c : Case). c.wanted) examples
unfolding append read_next read_at rewrite
all_modelled = refl

module _ (b : List ℕ) where
  -- of fresh queues, with the bytes lent
  abbrev pub got : Case → List Reply
  got c = replies turn (store fresh b) c.asks

  pub all_examples : length b ≡ 8192 → is_bytes b ≡ true → map got examples ≡ map (λ (c : Case). c.wanted) examples
  all_examples long y =
      map_all_same (λ (c : Case). all asked c.asks) got modelled (λ c h. (runs_fresh b c.asks long y h).outcomes) examples refl ∙ all_modelled
