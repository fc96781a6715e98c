-- What atoms leave of each variable, one after another.
use Rattle.std.proofs.Common.{◌≡◌, ℕ, suc, ◌+◌, ◌<◌, ◌^◌, Bool, true, false, ◌&&◌, ◌==◌, List, [], ◌∷◌, ◌++◌, Some, refl, sym, ap, ◌∙◌, arith, get_or, length, drop}
use Rattle.std.specs.Prelude.{if◌then◌else◌}
use Rattle.std.proofs.Math.Seq.{drop-cons}
use Rattle.dom_set.specs.Elements.{is_in}
use Rattle.tpl_ast.specs.declared.template.Atom.{Atom}
use Rattle.tpl_ast.specs.declared.template.Var.{Var}
use Rattle.tpl_ast.specs.declared.template.Var.TheVariants as vars
use Rattle.fd_prob.specs.declared.slot.Slot.{Slot}
use Rattle.fd_prob.specs.declared.slot.Slot.TheVariants as slots
use Rattle.fd_prob.specs.declared.slot.TheConstants.{SLOTS}
use Rattle.fd_prob.specs.Slots.{slot_number}
use Rattle.leaf_link.specs.Turns.{Turn}
use Rattle.leaf_link.specs.Cases.{all_tests}
use Rattle.leaf_link.specs.Problems.{bias_cut}
use Rattle.leaf_link.specs.Extras.{passes_cuts}
use Rattle.leaf_stand.specs.declared.stand.Stand.{Stand}
use Rattle.leaf_stand.specs.Internal.Cuts.{AddsCut, cut_of, cuts_of, var_of}
use Rattle.leaf_stand.specs.Relations.{speak_of}
use Rattle.data_bytes.specs.Sets.{IsSetOf}
use Rattle.leaf_stand.specs.Stands.{turn_of}
use Rattle.leaf_stand.proofs.Single.{and_true}
use Rattle.leaf_stand.proofs.Silent.{silent}

cut_var : (t : Turn) (bias : List Atom) (slot : Slot) (var : Var) (v : ℕ) → Some var ≡ var_of slot → bias_cut t bias slot v ≡ all_tests t bias var v
cut_var t bias slots.Op var v h = let e : var ≡ vars.Op = cc in sym (ap (λ (u : Var). all_tests t bias u v) e)
cut_var t bias slots.Rs1 var v h = let e : var ≡ vars.Rs1 = cc in sym (ap (λ (u : Var). all_tests t bias u v) e)
cut_var t bias slots.Rs2 var v h = let e : var ≡ vars.Rs2 = cc in sym (ap (λ (u : Var). all_tests t bias u v) e)
cut_var t bias slots.Imm var v h = let e : var ≡ vars.Imm = cc in sym (ap (λ (u : Var). all_tests t bias u v) e)
cut_var t bias slots.Rd var v h = let e : var ≡ vars.Rd = cc in sym (ap (λ (u : Var). all_tests t bias u v) e)
cut_var t bias slots.Csr var v h = let e : var ≡ vars.Csr = cc in sym (ap (λ (u : Var). all_tests t bias u v) e)
cut_var t bias slots.Ea var v h = let e : var ≡ vars.Ea = cc in sym (ap (λ (u : Var). all_tests t bias u v) e)
cut_var t bias slots.A var v h = let e : var ≡ vars.A = cc in sym (ap (λ (u : Var). all_tests t bias u v) e)
cut_var t bias slots.B var v h = let e : var ≡ vars.B = cc in sym (ap (λ (u : Var). all_tests t bias u v) e)
cut_var t bias slots.FirstPte var v h = absurd (cc h)
cut_var t bias slots.SecondPte var v h = absurd (cc h)
cut_var t bias slots.DataWord var v h = absurd (cc h)
cut_var t bias slots.OldCsr var v h = absurd (cc h)
cut_var t bias slots.Vector var v h = absurd (cc h)

if_true : (b a : Bool) → a ≡ true → (if b then a else true) ≡ true
if_true true a h = h
if_true false a h = refl

pub unsaid_cut : (s : Stand) (bias : List Atom) (slot : Slot) (var : Var) (old : List (Slot × List ℕ)) → Some var ≡ var_of slot → speak_of bias var ≡ false → AddsCut s bias slot old old
unsaid_cut s bias slot var old h n r v small =
    let e : cut_of s bias slot r v ≡ true = if_true (slot_number slot == slot_number r) (bias_cut (turn_of s) bias slot v) (cut_var (turn_of s) bias slot var v h ∙ silent (turn_of s) bias var v n) in
    sym (ap (λ (b : Bool). passes_cuts old r v && b) e ∙ and_true (passes_cuts old r v))

and_assoc : (a b d : Bool) → ((a && b) && d) ≡ (a && (b && d))
and_assoc true b d = refl
and_assoc false b d = refl

passes_both : (xs ys : List (Slot × List ℕ)) (r : Slot) (v : ℕ) → passes_cuts (xs ++ ys) r v ≡ (passes_cuts xs r v && passes_cuts ys r v)
passes_both [] ys r v = refl
passes_both (x ∷ xs) ys r v =
    ap (λ (b : Bool). (if slot_number x.0 == slot_number r then is_in x.1 v else true) && b) (passes_both xs ys r v)
    ∙ sym (and_assoc (if slot_number x.0 == slot_number r then is_in x.1 v else true) (passes_cuts xs r v) (passes_cuts ys r v))

pub said_cut : (s : Stand) (bias : List Atom) (slot : Slot) (var : Var) (old new : List (Slot × List ℕ)) (set : List ℕ) → Some var ≡ var_of slot → IsSetOf (all_tests (turn_of s) bias var) set → new ≡ old ++ (slot, set) ∷ []
    → AddsCut s bias slot old new
said_cut s bias slot var old new set h is e r v small =
    ap (λ (l : List (Slot × List ℕ)). passes_cuts l r v) e ∙ passes_both old ((slot, set) ∷ []) r v
    ∙ ap (λ (b : Bool). passes_cuts old r v && b) (and_true _ ∙ ap (λ (b : Bool). if slot_number slot == slot_number r then b else true) (is v small ∙ sym (cut_var (turn_of s) bias slot var v h)))

pub next_cut : (s : Stand) (bias : List Atom) (i : ℕ) (d : Slot) (old new : List (Slot × List ℕ)) → i < length SLOTS → AddsCut s bias (get_or SLOTS i d) old new
    → ((r : Slot) (v : ℕ) → v < 2 ^ 32 → (passes_cuts old r v && cuts_of s bias (drop i SLOTS) r v) ≡ cuts_of s bias SLOTS r v)
    → (r : Slot) (v : ℕ) → v < 2 ^ 32 → (passes_cuts new r v && cuts_of s bias (drop (i + 1) SLOTS) r v) ≡ cuts_of s bias SLOTS r v
next_cut s bias i d old new lt step inv r v small =
    let n : i + 1 ≡ suc i = omega arith in
    let e : drop i SLOTS ≡ get_or SLOTS i d ∷ drop (i + 1) SLOTS = drop-cons SLOTS i d lt ∙ ap (λ (m : ℕ). get_or SLOTS i d ∷ drop m SLOTS) (sym n) in
    ap (λ (b : Bool). b && cuts_of s bias (drop (i + 1) SLOTS) r v) (step r v small)
    ∙ and_assoc (passes_cuts old r v) (cut_of s bias (get_or SLOTS i d) r v) (cuts_of s bias (drop (i + 1) SLOTS) r v)
    ∙ ap (λ (l : List Slot). passes_cuts old r v && cuts_of s bias l r v) (sym e) ∙ inv r v small
