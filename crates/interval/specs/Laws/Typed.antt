-- What the struct's type says of the lengths of its arrays; and the struct with other rows, or another count. Assumes nothing.
use Rattle.std.specs.Prelude.{◌≡◌, ℕ, List, map, length}
use Rattle.std.proofs.Common.{sym, ◌∙◌}
use Rattle.std.proofs.lemmas.List.{length-map}
use Rattle.interval.specs.declared.Request.{Request}
use Rattle.interval.specs.declared.Requests.{Requests}

pub unmapped : {Y : Type 0} (f : Request → Y) (l : List Request) (n : ℕ) → length (map f l) ≡ n → length l ≡ n
unmapped f l n e = sym (length-map l f) ∙ e

abbrev pub with_rows : Requests → List Request → Requests
with_rows t l = record {
  register = t.register;
  pcount = t.pcount;
  programs = t.programs;
  tcount = t.tcount;
  terminals = t.terminals;
  count = t.count;
  rows = l;
}

abbrev pub counted : ℕ → Requests → Requests
counted n t = record {
  register = t.register;
  pcount = t.pcount;
  programs = t.programs;
  tcount = t.tcount;
  terminals = t.terminals;
  count = n;
  rows = t.rows;
}
