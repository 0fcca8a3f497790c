-- Document 01, "Numbers": the bounds as a record that every definition takes; the cabinet's is one value of it.
use Rattle.std.specs.Prelude.{ℕ, ◌^◌, ◌<◌, ◌≤◌, Bool, ◌&&◌, List, length, leb}
use Rattle.base.specs.Bytes.{is_bytes}

pub record Limits : Type 0 where
  pub programs : ℕ
  pub terminals : ℕ
  -- "requests known at once, in every phase"
  pub requests : ℕ
  pub queues : ℕ
  -- "items over all queues"
  pub slots : ℕ
  -- "item length", and that of the data of a start
  pub item : ℕ
  pub interval : ℕ
  pub advance : ℕ

-- of so many programs, terminals, requests, queues and slots: the bounds that are the same for every unit stand here
abbrev pub sized : ℕ → ℕ → ℕ → ℕ → ℕ → Limits
sized programs terminals requests queues slots = record {
  programs = programs;
  terminals = terminals;
  requests = requests;
  queues = queues;
  slots = slots;
  item = 64;
  interval = 359_999_000;
  advance = 1_000_000_000;
}

abbrev pub cabinet : Limits
cabinet = sized 16 8 32 16 128

-- "item length | 1..64 bytes"
abbrev pub is_item : Limits → List ℕ → Bool
is_item L b = leb 1 (length b) && leb (length b) L.item && is_bytes b

-- "start data | 0..64 bytes, 0 meaning none"
abbrev pub is_data : Limits → List ℕ → Bool
is_data L b = leb (length b) L.item && is_bytes b

abbrev pub some : List ℕ → Bool
some b = leb 1 (length b)

-- limits whose counts and items an answer can carry: a number of 4 bytes, 64 bytes at most
pub record Fit (L : Limits) : Type 0 where
  pub item : L.item ≤ 64
  pub requests : L.requests < 2 ^ 32
  pub slots : L.slots < 2 ^ 32
