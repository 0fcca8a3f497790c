-- How long what interval control answers can be, and how many its requests are.
-- Assumes nothing.
use Rattle.std.specs.Prelude.{ℕ, ◌<◌, ◌≤◌, ◌≡◌, refl, Bool, true, ◌&&◌, List, length, leb, eqb}
use Rattle.std.proofs.Common.{arith, leb-true, le-leb}
use Rattle.base.specs.Lists.{first}
use Rattle.base.specs.Bytes.{is_bytes}
use Rattle.base.specs.Laws.Tests.{and_l, and_r, and_i}
use Rattle.base.specs.Laws.Keep.{all_imp, any_imp, first_or, length_keep, keep_drops}
use Rattle.model.specs.Limits.{Limits, is_data}
use Rattle.model.specs.Interval.{Request, Interval, is_due, expired, active, no_request, known_request, request_of, active_task, remove, newly, line, serves, server, sound_request, sound_interval}
use Rattle.model.proofs.Laws.SoundInterval.{view, view_request}

module _ (L : Limits) (i : Interval) (s : sound_interval L i ≡ true) where
  -- of the first that passes any test
  first_size : (p : Request → Bool) → (length (first p no_request i.requests).bytes ≤ L.item) × (is_bytes (first p no_request i.requests).bytes ≡ true)
  first_size p =
      let b : List ℕ = (first p no_request i.requests).bytes in
      let h : is_data L b ≡ true =
      first_or p (λ (q : Request). is_data L q.bytes) no_request i.requests (and_i (le-leb 0 L.item (omega arith)) refl)
      (all_imp (sound_request L i) (λ (q : Request). is_data L q.bytes) (λ q e. (view_request L i q e).content) i.requests (view s).requests.sound) in
      (leb-true (length b) L.item (and_l (leb (length b) L.item) (is_bytes b) h), and_r (leb (length b) L.item) (is_bytes b) h)

  pub own_size : (n : ℕ) → (length (request_of i.requests n).bytes ≤ L.item) × (is_bytes (request_of i.requests n).bytes ≡ true)
  own_size n = first_size (λ (q : Request). eqb q.name n)

  pub server_size : (t : Request) → (length (server i t).bytes ≤ L.item) × (is_bytes (server i t).bytes ≡ true)
  server_size t = first_size (serves t)

  pub requests_few : length i.requests ≤ L.requests
  requests_few = (view s).requests.fit

module _ (i : Interval) where
  pub line_few : length (line i) ≤ length i.requests
  line_few = length_keep expired i.requests

  pub newly_few : (c : ℕ) → length (newly c i.requests) ≤ length i.requests
  newly_few c = length_keep (λ (q : Request). is_due c q.phase) i.requests

  pub known_fewer : (n : ℕ) → known_request i.requests n ≡ true → length (remove i n).requests < length i.requests
  known_fewer n k = keep_drops (λ (q : Request). eqb q.name n) i.requests k

  pub active_known : (n : ℕ) → active_task i n ≡ true → known_request i.requests n ≡ true
  active_known n a =
      any_imp (λ (q : Request). active q && eqb q.name n) (λ (q : Request). eqb q.name n) (λ q e. and_r (active q) (eqb q.name n) e) i.requests a

  pub remove_fewer : (n : ℕ) → active_task i n ≡ true → length (remove i n).requests < length i.requests
  remove_fewer n a = known_fewer n (active_known n a)
