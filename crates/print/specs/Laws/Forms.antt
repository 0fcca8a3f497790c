-- What is printed of the model's run of a list of bytes: the refusal's line exactly if the list does not frame, and otherwise
-- a line for each of the model's answers. 27,454 bytes have room for the answers of every list. Assumes nothing.
use Rattle.std.specs.Prelude.{ℕ, zero, suc, ◌+◌, ◌*◌, ◌≤◌, ◌≡◌, refl, Bool, true, ◌&&◌, List, [], ◌∷◌, length, take, drop, leb, eqb}
use Rattle.std.proofs.Common.{arith, ap, ◌∙◌, length-drop, leb-true, le-leb}
use Rattle.base.specs.Choice.{pick}
use Rattle.base.specs.Lists.{all}
use Rattle.base.specs.Bytes.{num, is_bytes}
use Rattle.base.specs.Laws.Tests.{and_l, and_r, and_i, pick_elim}
use Rattle.base.specs.Laws.Bytes.{is_bytes_take, is_bytes_drop}
use Rattle.base.specs.Laws.Over.{take_over}
use Rattle.model.specs.Limits.{Limits, Fit}
use Rattle.model.specs.State.{State, empty_at, sound}
use Rattle.model.specs.Commands.{step}
use Rattle.model.specs.Lists.{Framed, bad, good, behind, whole, records, headed, framed, answers_from, encoded_all, refusal, answered, ran, run}
use Rattle.model.proofs.Laws.SoundStep.{empty_sound, step_sound}
use Rattle.model.proofs.Laws.Written.{step_proper}
use Rattle.print.specs.Lines.{lines_from, lines_of, refusal_line, form_of}
use Rattle.print.specs.Laws.Decoded.{Propers, lines_back}

-- what is printed of a list that is framed so
abbrev pub form_for : Limits → Framed → List ℕ
form_for L bad = refusal_line
form_for L (good v rs) = lines_from 1 (answers_from L (empty_at v) rs)

-- ---- the answers can be read back

answers_proper : (L : Limits) → Fit L → (rs : List (List ℕ)) (s : State) → sound L s ≡ true → all is_bytes rs ≡ true → Propers (answers_from L s rs)
unfolding answers_from
answers_proper L F [] s so b = tt
answers_proper L F (r ∷ rs) s so b =
    let one = and_l (is_bytes r) (all is_bytes rs) b in
    (step_proper L s r F so one, answers_proper L F rs (step L s r).state (step_sound L s r so one) (and_r (is_bytes r) (all is_bytes rs) b))

-- ---- the records are few, and bytes

abbrev Few : ℕ → Framed → Type 0
Few n bad = Unit {0}
Few n (good v rs) = (11 * length rs ≤ n) × (all is_bytes rs ≡ true)

few_behind : (m n : ℕ) (r : List ℕ) (x : Framed) → m + 11 ≤ n → is_bytes r ≡ true → Few m x → Few n (behind r x)
few_behind m n r bad h b p = tt
few_behind m n r (good v rs) h b p = ((let q = p.0 in omega arith), and_i b p.1)

few_records : (v f : ℕ) (l : List ℕ) → is_bytes l ≡ true → Few (length l) (records v f l)
few_records v zero l b = pick_elim (Few (length l)) (eqb (length l) 0) (good v []) bad (λ _. ((omega arith), refl)) (λ _. tt)
few_records v (suc f) l b =
    pick_elim (Few (length l)) (eqb (length l) 0) (good v []) _ (λ _. ((omega arith), refl))
    (λ _.
    pick_elim (Few (length l)) (whole l) _ bad
    (λ t.
    let long = leb-true 9 (num 0 2 l) (and_r (leb 2 (length l)) (leb 9 (num 0 2 l)) (and_l (leb 2 (length l) && leb 9 (num 0 2 l)) (leb (2 + num 0 2 l) (length l)) t)) in
    let past = leb-true (2 + num 0 2 l) (length l) (and_r (leb 2 (length l) && leb 9 (num 0 2 l)) (leb (2 + num 0 2 l) (length l)) t) in
    let left = length-drop (2 + num 0 2 l) l in
    few_behind (length (drop (2 + num 0 2 l) l)) (length l) (take (num 0 2 l) (drop 2 l)) (records v f (drop (2 + num 0 2 l) l)) (omega arith)
    (is_bytes_take (num 0 2 l) (drop 2 l) (is_bytes_drop 2 l b))
    (few_records v f (drop (2 + num 0 2 l) l) (is_bytes_drop (2 + num 0 2 l) l b)))
    (λ _. tt))

few_less : (m n : ℕ) (x : Framed) → m ≤ n → Few m x → Few n x
few_less m n bad h p = tt
few_less m n (good v rs) h p = ((let q = p.0 in omega arith), p.1)

few_framed : (l : List ℕ) → is_bytes l ≡ true → Few 4087 (framed l)
unfolding framed
few_framed l b =
    let inside = records (num 5 4 l) (length l) (drop 9 l) in
    pick_elim (Few 4087) (headed l) inside bad
    (λ t.
    let front = and_l (leb 9 (length l) && leb (length l) 4096 && eqb (num 0 4 l + 4) (length l)) (eqb (num 4 1 l) 1) t in
    let sizes = and_l (leb 9 (length l) && leb (length l) 4096) (eqb (num 0 4 l + 4) (length l)) front in
    let least = leb-true 9 (length l) (and_l (leb 9 (length l)) (leb (length l) 4096) sizes) in
    let most = leb-true (length l) 4096 (and_r (leb 9 (length l)) (leb (length l) 4096) sizes) in
    let left = length-drop 9 l in
    few_less (length (drop 9 l)) 4087 inside (omega arith) (few_records (num 5 4 l) (length l) (drop 9 l) (is_bytes_drop 9 l b)))
    (λ _. tt)

-- ---- what is printed

ran_form : (L : Limits) → Fit L → (b : List ℕ) → 27454 ≤ length b → (x : Framed) → Few 4087 x → form_of (ran L b x) ≡ form_for L x
ran_form L F b room bad p = refl
ran_form L F b room (good v rs) p =
    let q = p.0 in
    let answers = answers_from L (empty_at v) rs in
    ap (λ (t : Bool). form_of (pick t (answered answers b) (refusal 36 b))) (le-leb (74 * length rs) (length b) (omega arith))
    ∙ ap lines_of (take_over (encoded_all answers) b)
    ∙ lines_back answers (answers_proper L F rs (empty_at v) (empty_sound L v) p.1)

-- every list of bytes, run into any buffer of 27,454 bytes and more
pub run_form : (L : Limits) → Fit L → (l b : List ℕ) → is_bytes l ≡ true → 27454 ≤ length b → form_of (run L l b) ≡ form_for L (framed l)
unfolding run
run_form L F l b h room = ran_form L F b room (framed l) (few_framed l h)
