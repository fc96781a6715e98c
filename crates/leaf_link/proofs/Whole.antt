-- The problem of a leaf as a whole.
use Rattle.std.proofs.Common.{ℕ, zero, suc, ◌^◌, ◌<◌, ◌⊎◌, List, [], ◌∷◌, ◌++◌, length, refl, sym, subst, inl, inr, arith}
use Rattle.std.specs.Prelude.{slice_index_or}
use Rattle.rv_isa.specs.declared.operation.Op.{Op}
use Rattle.rv_isa.specs.declared.operation.Op.TheVariants.{Illegal}
use Rattle.rv_isa.specs.declared.operation.TheConstants.{OPS}
use Rattle.rv_script.specs.Lists.{HasItem}
use Rattle.rv_script.specs.Folds.{Entry}
use Rattle.tpl_ast.specs.declared.template.Atom.{Atom}
use Rattle.fd_prob.specs.declared.slot.Slot.{Slot}
use Rattle.rv_isa.proofs.Numbers.{small}
use Rattle.rv_isa.specs.Numbers.{op_numbered, op_number}
use Rattle.leaf_link.specs.Turns.{Turn}
use Rattle.leaf_link.specs.Values.{Values, instr_in, new_places}
use Rattle.leaf_link.specs.Candidates.{IsCandidate}
use Rattle.leaf_link.specs.Cases.{Case, Fits, Way, cases_of}
use Rattle.leaf_link.specs.Ways.{IsWays}
use Rattle.leaf_link.specs.KindLaws.{IsPosed}
use Rattle.leaf_link.specs.Problems.{AnswersAreExact, ProblemIsExact, cases, cases_over, key_of}
use Rattle.leaf_link.proofs.Numbers.{op_back}
use Rattle.leaf_link.proofs.Links.{law_from}
use Rattle.leaf_link.proofs.Front.{settled}
use Rattle.leaf_link.proofs.Both.{fits_good}
use Rattle.leaf_link.proofs.Back.{good_fits}
use Rattle.leaf_link.proofs.Small.{good_small}
use Rattle.leaf_link.proofs.Answering.{answers_over}

-- LISTS OF CASES
fits_either : (cs ds : List Case) (x : Values) → Fits (cs ++ ds) x → Fits cs x ⊎ Fits ds x
fits_either [] ds x f = inr f
fits_either (c ∷ cs) ds x f = elim f [
  | inl h ↦ inl (inl h)
  | inr h ↦ elim (fits_either cs ds x h) [ inl a ↦ inl (inr a) | inr b ↦ inr b ]
]

fits_first : (cs ds : List Case) (x : Values) → Fits cs x → Fits (cs ++ ds) x
fits_first [] ds x f = absurd f
fits_first (c ∷ cs) ds x f = elim f [ inl h ↦ inl h | inr h ↦ inr (fits_first cs ds x h) ]

fits_second : (cs ds : List Case) (x : Values) → Fits ds x → Fits (cs ++ ds) x
fits_second [] ds x f = f
fits_second (c ∷ cs) ds x f = inr (fits_second cs ds x f)

pub one_of : (t : Turn) (walk : List Entry) (pa : ℕ) (leaf : List Atom) (ways : Op → List Way) (ops : List Op) (x : Values) → Fits (cases_over t walk pa leaf ways ops) x → (op : Op) × Fits (cases_of t walk pa leaf op (ways op)) x
one_of t walk pa leaf ways [] x f = absurd f
one_of t walk pa leaf ways (op ∷ ops) x f = elim (fits_either (cases_of t walk pa leaf op (ways op)) (cases_over t walk pa leaf ways ops) x f) [
  | inl h ↦ (op, h)
  | inr h ↦ one_of t walk pa leaf ways ops x h
]

pub of_one : (t : Turn) (walk : List Entry) (pa : ℕ) (leaf : List Atom) (ways : Op → List Way) (ops : List Op) (x : Values) (op : Op) → HasItem ops op → Fits (cases_of t walk pa leaf op (ways op)) x → Fits (cases_over t walk pa leaf ways ops) x
of_one t walk pa leaf ways [] x op i f = absurd i
of_one t walk pa leaf ways (o ∷ ops) x op i f = elim i [
  | inl h ↦ fits_first (cases_of t walk pa leaf o (ways o)) (cases_over t walk pa leaf ways ops) x (subst (λ (z : Op). Fits (cases_of t walk pa leaf z (ways z)) x) (sym h) f)
  | inr j ↦ fits_second (cases_of t walk pa leaf o (ways o)) (cases_over t walk pa leaf ways ops) x (of_one t walk pa leaf ways ops x op j f)
]

-- ALL OPERATIONS
pub below_58 : (op : Op) → op_number op < 58
below_58 = small

has_at : {A : Type 0} (xs : List A) (n : ℕ) (d : A) → n < length xs → HasItem xs (slice_index_or xs n d)
has_at [] n d h = absurd (omega (arith, h))
has_at (x ∷ xs) zero d h = inl refl
has_at (x ∷ xs) (suc n) d h = inr (has_at xs n d (omega (arith, h)))

pub every_op : (op : Op) → HasItem OPS op
unfolding op_numbered
every_op op = subst (λ (o : Op). HasItem OPS o) (op_back op) (has_at OPS (op_number op) Illegal (below_58 op))

pub problem_is_exact : ProblemIsExact
problem_is_exact t walk pa leaf ways p owed =
    let law = law_from t leaf (Fits (cases t walk pa leaf ways)) (λ i. Unit {0}) (settled t walk pa p.fetched)
    (λ x f. let o = one_of t walk pa leaf ways OPS x f in ((fits_good t walk pa leaf o.0 (ways o.0) p.fetched p.plain (owed o.0) x o.1).0, tt))
    (λ x g u. let op : Op = (instr_in x).op in of_one t walk pa leaf ways OPS x op (every_op op) (good_fits t walk pa leaf op (ways op) p.fetched p.words p.plain (owed op) x g refl)) in
    record {
      into = λ x f. (law.into x f).0;
      apart = law.apart;
      are_values = law.are_values;
      onto = λ new w. law.onto new (w, tt);
    }

-- what fits is words
fitting_small : (t : Turn) (walk : List Entry) (pa : ℕ) (leaf : List Atom) (ways : Op → List Way) → IsPosed t walk pa leaf → ((op : Op) → IsWays t walk pa leaf op (ways op)) → (x : Values) → Fits (cases t walk pa leaf ways) x → (s : Slot) → x s < 2 ^ 32
fitting_small t walk pa leaf ways p owed x f =
    let o = one_of t walk pa leaf ways OPS x f in
    good_small t leaf x p.words p.fixed below_58 (fits_good t walk pa leaf o.0 (ways o.0) p.fetched p.plain (owed o.0) x o.1).0

-- ANSWERS
pub answers_are_exact : AnswersAreExact
answers_are_exact t walk pa leaf ways p nodes answer posed owed is a =
    answers_over p (cases t walk pa leaf ways) nodes answer (IsCandidate t leaf) (key_of t leaf) (new_places t.fixed t.known) (problem_is_exact t walk pa leaf ways posed owed) (fitting_small t walk pa leaf ways posed owed) is a
