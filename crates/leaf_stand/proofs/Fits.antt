-- What fits lists of cases, and which cases of a stand are of an operation that is allowed.
use Rattle.std.proofs.Common.{◌≡◌, ℕ, ◌⊎◌, Bool, true, false, ◌&&◌, ◌||◌, List, [], ◌∷◌, ◌++◌, Option, Some, None, refl, sym, ap, ◌∙◌, subst, arith, inl, inr}
use Rattle.std.specs.List.{list_any}
use Rattle.std.specs.Prelude.{not}
use Rattle.std.proofs.lemmas.Bool.{and_from, and_parts}
use Rattle.std.proofs.lemmas.Bool.Decides.{nat_tests}
use Rattle.std.proofs.lemmas.List.Folds.{list_any-append}
use Rattle.rv_isa.specs.declared.instruction.Instr.{Instr}
use Rattle.rv_isa.specs.declared.operation.Op.{Op}
use Rattle.rv_isa.specs.Reading.{decoded}
use Rattle.tpl_ast.specs.declared.template.Atom.{Atom}
use Rattle.tpl_ast.specs.declared.template.Var.TheVariants as vars
use Rattle.fd_prob.specs.declared.problem.Case.{Case as ACase}
use Rattle.fd_prob.specs.declared.slot.Slot.TheVariants as slots
use Rattle.fd_prob.specs.Fitting.{fits_case}
use Rattle.rv_isa.specs.Numbers.{op_number}
use Rattle.leaf_link.specs.Values.{Values}
use Rattle.leaf_link.specs.Cases.{Case, Fits, FitsCase, Way as AWay, all_tests, case_at, case_if, domain, in_read, in_word, shape_of}
use Rattle.leaf_link.specs.Answers.{values_in}
use Rattle.leaf_stand.specs.declared.stand.Stand.{Stand}
use Rattle.leaf_stand.specs.Posed.{FitsSame, allows, has_accesses, is_data, is_posable, is_posed_at, is_read_as, reads_as, stand_cases}
use Rattle.leaf_stand.specs.Kinds.{kind_of}
use Rattle.leaf_stand.specs.Stands.{turn_of}

-- WHAT FITS LISTS
pub fits_left : (ds es : List Case) (x : Values) → Fits ds x → Fits (ds ++ es) x
fits_left [] es x f = absurd f
fits_left (d ∷ ds) es x (inl f) = inl f
fits_left (d ∷ ds) es x (inr f) = inr (fits_left ds es x f)

pub fits_right : (ds es : List Case) (x : Values) → Fits es x → Fits (ds ++ es) x
fits_right [] es x f = f
fits_right (d ∷ ds) es x f = inr (fits_right ds es x f)

pub fits_either : (ds es : List Case) (x : Values) → Fits (ds ++ es) x → Fits ds x ⊎ Fits es x
fits_either [] es x f = inr f
fits_either (d ∷ ds) es x (inl f) = inl (inl f)
fits_either (d ∷ ds) es x (inr f) = elim (fits_either ds es x f) [
  | inl g ↦ inl (inr g)
  | inr g ↦ inr g
]

or_parts : (a b : Bool) → (a || b) ≡ true → (a ≡ true) ⊎ (b ≡ true)
or_parts true b h = inl refl
or_parts false b h = inr h

or_right : (a b : Bool) → b ≡ true → (a || b) ≡ true
or_right true b h = refl
or_right false b h = h

-- two lists one after another
pub both_lists : (cs new : List ACase) (ds es : List Case) → FitsSame cs ds → FitsSame new es → FitsSame (cs ++ new) (ds ++ es)
both_lists cs new ds es h k x hx = (there, back)
  where
    there : list_any (fits_case x) (cs ++ new) ≡ true → Fits (ds ++ es) (values_in x)
    there a = elim (or_parts (list_any (fits_case x) cs) (list_any (fits_case x) new) (sym (list_any-append (fits_case x) cs new) ∙ a)) [
      | inl y ↦ fits_left ds es (values_in x) ((h x hx).0 y)
      | inr y ↦ fits_right ds es (values_in x) ((k x hx).0 y)
    ]

    back : Fits (ds ++ es) (values_in x) → list_any (fits_case x) (cs ++ new) ≡ true
    back f = list_any-append (fits_case x) cs new ∙ elim (fits_either ds es (values_in x) f) [
      | inl y ↦ ap (λ (b : Bool). b || list_any (fits_case x) new) ((h x hx).1 y)
      | inr y ↦ or_right (list_any (fits_case x) cs) (list_any (fits_case x) new) ((k x hx).1 y)
    ]

pub none_yet : FitsSame [] []
none_yet x hx = ((λ h. absurd (cc h)), λ f. absurd f)

-- AN OPERATION THAT IS NOT ALLOWED
read_as : (o : Option Instr) (op : Op) → in_read o slots.Op (op_number op) ≡ true → is_read_as o op ≡ true
read_as None op h = absurd (cc h)
read_as (Some i) op h = grind (arith, nat_tests)

pub in_word_reads : (o : Option ℕ) (op : Op) → in_word o op slots.Op (op_number op) ≡ true → reads_as o op ≡ true
in_word_reads None op h = refl
in_word_reads (Some w) op h = read_as (decoded w) op h

pub allowed_of : (s : Stand) (leaf : List Atom) (op : Op) (way : AWay) (x : Values) → FitsCase (case_at (turn_of s) 0 leaf op way) x → allows s leaf op ≡ true
allowed_of s leaf op way x f =
    let d : domain (turn_of s) 0 leaf op way slots.Op (op_number op) ≡ true = subst (λ (v : ℕ). domain (turn_of s) 0 leaf op way slots.Op v ≡ true) f.op (f.each slots.Op) in
    let a = (and_parts (in_word s.word op slots.Op (op_number op) && all_tests (turn_of s) leaf vars.Op (op_number op)) (way.also slots.Op (op_number op)) d).0 in
    let b = and_parts (in_word s.word op slots.Op (op_number op)) (all_tests (turn_of s) leaf vars.Op (op_number op)) a in
    and_from _ _ (in_word_reads s.word op b.0) b.1

either_fits : (b : Bool) (c : Case) (cs : List Case) (x : Values) → Fits (case_if b c cs) x → FitsCase c x ⊎ Fits cs x
either_fits true c cs x f = f
either_fits false c cs x f = inr f

pub stand_allowed : (s : Stand) (leaf : List Atom) (op : Op) (ways : List AWay) (x : Values) → Fits (stand_cases s leaf op ways) x → allows s leaf op ≡ true
stand_allowed s leaf op [] x f = absurd f
stand_allowed s leaf op (way ∷ ways) x f = elim (either_fits (is_posed_at s leaf (shape_of op way)) (case_at (turn_of s) 0 leaf op way) (stand_cases s leaf op ways) x f) [
  | inl g ↦ allowed_of s leaf op way x g
  | inr g ↦ stand_allowed s leaf op ways x g
]

pub not_allowed : (s : Stand) (leaf : List Atom) (op : Op) (ways : List AWay) → allows s leaf op ≡ false → FitsSame [] (stand_cases s leaf op ways)
not_allowed s leaf op ways n x hx = (λ h. absurd (cc h), λ f. let y = stand_allowed s leaf op ways (values_in x) f in absurd (cc))

-- an operation that may be posed and is allowed is no load or store, unless it is told what they may do
pub posable_where : (s : Stand) (leaf : List Atom) (op : Op) → is_posable s leaf op ≡ true → allows s leaf op ≡ true → (not (is_data (kind_of op)) || has_accesses s) ≡ true
posable_where s leaf op h a = of_bools (not (is_data (kind_of op)) || has_accesses s) (allows s leaf op) h a
  where
    of_bools : (b d : Bool) → (b || not d) ≡ true → d ≡ true → b ≡ true
    of_bools true d p q = refl
    of_bools false d p q = absurd (cc (ap not q, p))
