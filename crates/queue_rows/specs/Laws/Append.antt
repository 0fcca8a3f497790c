-- Append: the cases of the exact definition, and that from sound words it does what the model's plan says and leaves sound words. Assumes nothing.
use Rattle.std.specs.Prelude.{◌≡◌, refl, Bool, true, false, not, ◌&&◌, ℕ, ◌+◌, ◌≤◌, ◌<◌, min, eqb, leb, length}
use Rattle.std.proofs.Math.Path.{sym, ap}
use Rattle.std.proofs.Common.{ap₂, ◌∙◌, arith}
use mathlib.Core.List.{List}
use Rattle.std.proofs.Math.Logic.{⊎_elim}
use borrow.Author.Tests.{le-leb, lt-leb}
use Rattle.base.specs.Choice.{pick}
use Rattle.base.specs.Lists.{has, copies}
use Rattle.base.specs.Bytes.{blank}
use Rattle.base.specs.Laws.Tests.{pick_elim}
use Rattle.slots.specs.Bits.{free_for}
use Rattle.slots.proofs.Laws.Free.{free_at, free_full}
use Rattle.slots.specs.declared.Used.{Used}
use Rattle.std.specs.Prelude.{Option}
use Rattle.std.specs.Prelude.{Some, None}
use Rattle.model.specs.Plans.{no_space, wrong_length, invalid_request, Plan, Outcome, fault, done, first_of, Follows}
use Rattle.model.specs.Queues.{Queue, known_queue, at_queue, longer, append}
use Rattle.queue_rows.specs.Table.{Queues, rows_in, slots_in, names_of, entries, Store, store}
use Rattle.queue_rows.specs.Model.{queues_of, limits_of}
use Rattle.queue_rows.specs.Sound.{SoundS}
use Rattle.queue_rows.specs.Append.{with_queue, put, in_slot, append_to}
use Rattle.queue_rows.specs.Laws.Typed.{Fits}
use Rattle.queue_rows.specs.Laws.Stands.{QueuesHold, holds, held_sound, known_of_lem, count_of, items_of_lem, number_of_lem}
use Rattle.queue_rows.specs.Laws.Follows.{follows_fault, follows_effect}
use Rattle.queue_rows.specs.Laws.Item.{wrong, item_some, item_short}
use Rattle.queue_rows.specs.Laws.Free.{Open, free_open}
use Rattle.queue_rows.specs.Laws.Grown.{Ready, ready}
use Rattle.queue_rows.specs.Laws.Put.{put_holds, put_stands}

-- ---- the cases

-- "the name is unknown and 16 queues exist", or as many as there can be
abbrev pub no_row : Queues → ℕ → Bool
no_row q n = not (has n (names_of q)) && leb (rows_in q) q.count

-- the slot for an item, of those that the asker may fill
abbrev pub slot_for : Queues → ℕ → Option ℕ
slot_for q may = free_for (min may (slots_in q)) q.used

pub append_elim : (q : Queues) (b : List ℕ) (may n : ℕ) (item : List ℕ) (P : Outcome Store → Type 0)
    → (eqb n (blank 8) ≡ true → P (fault (store q b) invalid_request))
    → (eqb n (blank 8) ≡ false → wrong item ≡ true → P (fault (store q b) wrong_length))
    → (eqb n (blank 8) ≡ false → wrong item ≡ false → no_row q n ≡ true → P (fault (store q b) no_space))
    → (eqb n (blank 8) ≡ false → wrong item ≡ false → no_row q n ≡ false → (x : Option ℕ) → slot_for q may ≡ x
    → P (in_slot (with_queue q n) b n item x))
    → P (append_to q b may n item)
unfolding append_to
append_elim q b may n item P a w f d =
    let last : Outcome Store = in_slot (with_queue q n) b n item (slot_for q may) in
    let third : Outcome Store = pick (no_row q n) (fault (store q b) no_space) last in
    pick_elim P (eqb n (blank 8)) (fault (store q b) invalid_request) (pick (wrong item) (fault (store q b) wrong_length) third) a
    (λ e.
    pick_elim P (wrong item) (fault (store q b) wrong_length) third (w e)
    (λ g. pick_elim P (no_row q n) (fault (store q b) no_space) last (f e g) (λ h. d e g h (slot_for q may) refl)))

-- ---- in the words of the model

module _ (s : Store) (f : Fits s.queues s.items) (h : SoundS s) (may n : ℕ) (item : List ℕ) (m : may ≤ slots_in s.queues) where
  abbrev q : Queues
  q = s.queues

  abbrev b : List ℕ
  b = s.items

  abbrev l : List Queue
  l = queues_of s

  abbrev P : Plan (List Queue)
  P = append (limits_of q) may l n item

  abbrev Meets : Outcome Store → Type 0
  Meets o = Follows queues_of SoundS o l P

  r : QueuesHold q
  r = holds q h

  -- the test of the rows, as the model makes it
  row_test : (not (known_queue l n) && leb (rows_in q) (length l)) ≡ no_row q n
  row_test = cc (known_of_lem q b f n, count_of q b f r.laid)

  module _ (e : eqb n (blank 8) ≡ false) (w : wrong item ≡ false) (g : no_row q n ≡ false) where
    abbrev r' : Queues
    r' = with_queue q n

    clear : first_of P.checks ≡ 0
    unfolding append
    clear = rw (e, w, row_test, g)

    is : Ready q b n r'
    is = ready q b f r n e g

    no_slot : slot_for q may ≡ None → Meets (fault (store r' b) no_space)
    unfolding append
    no_slot z =
        let full : may ≤ entries q =
        ⊎_elim (λ x. omega arith) (λ x. omega (arith, f.slots_few)) (free_full q.used f.words (min may (slots_in q)) z) in
        follows_effect queues_of SoundS s P (fault (store r' b) no_space) clear
        (rw (items_of_lem q b f r, le-leb may (entries q) full) (ap (λ (x : List Queue). fault x no_space) is.stands))
        (held_sound r' is.held)

    module _ (k : ℕ) (z : slot_for q may ≡ Some k) where
      free : Open r' k
      free = free_open r' is.fits.words may k (ap₂ (λ (u : Used) (x : ℕ). free_for (min may x) u) is.used is.slots ∙ z)

      into : Meets (in_slot r' b n item (Some k))
      unfolding append
      into =
          let short = item_short item w in
          let room : entries q < may = omega (arith, (free_at q.used f.words (min may (slots_in q)) k z).share) in
          follows_effect queues_of SoundS s P (in_slot r' b n item (Some k)) clear
          (rw (items_of_lem q b f r, lt-leb may (entries q) room)
          (ap₂ (λ (x : List Queue) (p : ℕ). done x (p + 1))
          (put_stands r' b is.fits is.held n k free item short ∙ ap (at_queue n (longer item)) is.stands)
          (ap (copies n) is.owned ∙ sym (number_of_lem q b f r n))))
          (held_sound (put r' n (length item) k) (put_holds r' is.fits n (length item) k free is.held is.there (item_some item w) short))

    slot_case : (x : Option ℕ) → slot_for q may ≡ x → Meets (in_slot r' b n item x)
    slot_case None z = no_slot z
    slot_case (Some k) z = into k z

  -- for an asker who may fill so many slots
  pub append_share_follows : Follows queues_of SoundS (append_to s.queues s.items may n item) (queues_of s)
      (append (limits_of s.queues) may (queues_of s) n item)
  unfolding append
  append_share_follows =
      append_elim q b may n item Meets (λ e. follows_fault queues_of SoundS s P h 9 (rw e)) (λ e w. follows_fault queues_of SoundS s P h 3 (rw (e, w)))
      (λ e w g. follows_fault queues_of SoundS s P h 0 (rw (e, w, row_test, g))) slot_case

pub append_follows : (s : Store) → Fits s.queues s.items → SoundS s → (n : ℕ) (item : List ℕ)
    → Follows queues_of SoundS (append_to s.queues s.items (slots_in s.queues) n item) (queues_of s)
    (append (limits_of s.queues) (slots_in s.queues) (queues_of s) n item)
append_follows s f h n item = append_share_follows s f h (slots_in s.queues) n item (omega arith)
