-- The answer of a leaf on a test, from that of its stand.
use Rattle.std.proofs.Common.{◌≡◌, ℕ, ◌<◌, ◌^◌, ◌+◌, List, [], ◌∷◌, ◌++◌, refl, sym, ap, ◌∙◌, subst, inl, inr}
use Rattle.std.specs.List.{AllByRecursion}
use Rattle.std.specs.Prelude.{IfSome}
use Rattle.dom_set.specs.Elements.{is_in}
use Rattle.leaf_link.specs.Reaching.{HasPages}
use Rattle.rv_csr.specs.declared.access.CsrAccess.{CsrAccess}
use Rattle.rv_script.specs.Folds.{Entry}
use Rattle.rv_script.specs.Lists.{HasItem}
use Rattle.rv_script.proofs.Items.{has_either}
use Rattle.foot_map.specs.declared.touch.Touch.{Touch}
use Rattle.tpl_ast.specs.declared.template.Atom.{Atom}
use Rattle.tpl_ast.specs.declared.template.Wish.{Wish}
use Rattle.tpl_ast.specs.Leaves.{IsPlain, atoms_of}
use Rattle.fd_prob.specs.declared.problem.Assignment.{Assignment}
use Rattle.fd_solve.specs.declared.answers.LeafAnswer.{LeafAnswer}
use Rattle.fd_solve.specs.declared.answers.Solved.{Solved}
use Rattle.fd_solve.specs.declared.answers.Solved.TheVariants as answers
use Rattle.foot_map.specs.Races.{IsFootprint}
use Rattle.tpl_admit.specs.Races.{footprints_of}
use Rattle.leaf_link.specs.Answers.{values_in}
use Rattle.leaf_link.specs.Firsts.{IsTurnAnswer}
use Rattle.turn_laws.specs.Ahead.{AreVectors}
use Rattle.leaf_turn.specs.Answers.{IsFound}
use Rattle.leaf_turn.specs.Entering.{Leads}
use Rattle.leaf_turn.specs.Finding.{AnswersAreFound}
use Rattle.part_machine.specs.Whole.{Whole, fixed_in, hart_of, records_of}
use Rattle.leaf_link.specs.Turns.{Turn}
use Rattle.leaf_link.specs.Values.{fixed_value}
use Rattle.leaf_link.specs.Ways.{AreWords}
use Rattle.leaf_link.specs.Extras.{AllPlain, AreJudged, ArePlain, IsTurnLeafAnswer, Taken, kept_with}
use Rattle.leaf_link.specs.KindLaws.{IsPosed}
use Rattle.leaf_stand.specs.declared.stand.Stand.{Stand}
use Rattle.leaf_stand.specs.Stands.{IsStandOf}
use Rattle.turn_laws.specs.Given.{Setting, known_at, turn_at}
use Rattle.leaf_turn.specs.Wishes.{biases_of, mandatory_of}
use Rattle.leaf_turn.proofs.Plainness.{each_plain, plain_biases, plain_mandatory}

-- what an answer over a stand says of every turn that it tells
abbrev pub AnswersStand : Stand → List Atom → List (List Atom) → List ℕ → ℕ → LeafAnswer → Type 0
AnswersStand st leaf biases draws nodes answer =
    (t : Turn) (walk : List Entry) (pa : ℕ) → IsStandOf st t walk pa → IsPosed t walk pa leaf → IfSome st.accesses (λ a. HasPages t leaf (is_in a.pages)) → AllPlain biases → IsTurnLeafAnswer t pa leaf biases draws nodes answer

-- what the answer of a leaf rests on
pub posed_at : (k : ℕ) (w : Whole) (s : Setting) (feet : List Touch) (walk : List Entry) (pa : ℕ) (leaf : List Atom)
    → Leads k w walk pa → ((access : CsrAccess) → fixed_value (fixed_in (hart_of k w) w.memory) access < 2 ^ 32) → AreWords (known_at k w)
    → ((atom : Atom) → HasItem leaf atom → IsPlain atom) → IsPosed (turn_at s feet k w) walk pa leaf
posed_at k w s feet walk pa leaf leads fixed words plain = record {
  fetched = record { translates = leads.translates; aligned = leads.aligned };
  words = words;
  fixed = fixed;
  plain = plain;
}

pub answered : (st : Stand) (k : ℕ) (w : Whole) (s : Setting) (feet : List Touch) (walk : List Entry) (pa : ℕ) (ws : List Wish) (leaf : List Atom) (biases : List (List Atom)) (draws : List ℕ) (nodes : ℕ) (answer : LeafAnswer)
    → leaf ≡ mandatory_of ws → biases ≡ biases_of ws → AllByRecursion IsPlain (atoms_of ws) → Leads k w walk pa → IsStandOf st (turn_at s feet k w) walk pa → IfSome st.accesses (λ a. HasPages (turn_at s feet k w) leaf (is_in a.pages))
    → ((access : CsrAccess) → fixed_value (fixed_in (hart_of k w) w.memory) access < 2 ^ 32) → AreWords (known_at k w)
    → AnswersStand st leaf biases draws nodes answer → IsTurnLeafAnswer (turn_at s feet k w) pa (mandatory_of ws) (biases_of ws) draws nodes answer
answered st k w s feet walk pa ws leaf biases draws nodes answer same others plain leads stands pages fixed words answers =
    let turn : Turn = turn_at s feet k w in
    let plain_leaf : AllByRecursion IsPlain leaf = subst (AllByRecursion IsPlain) (sym same) (plain_mandatory ws plain) in
    let plain_rest : AllPlain biases = subst AllPlain (sym others) (plain_biases ws plain) in
    let posed : IsPosed turn walk pa leaf = posed_at k w s feet walk pa leaf leads fixed words (each_plain leaf plain_leaf) in
    let is : IsTurnLeafAnswer turn pa leaf biases draws nodes answer = answers turn walk pa stands posed pages plain_rest in
    subst (λ (l : List Atom). IsTurnLeafAnswer turn pa l (biases_of ws) draws nodes answer) same
    (subst (λ (bs : List (List Atom)). IsTurnLeafAnswer turn pa leaf bs draws nodes answer) others is)

-- ---- what is found

-- the atoms of an answer are those of the leaf and of the biases that were kept
record AreMore (before after : List Atom) : Type 0 where
  pub more : List Atom
  pub is : after ≡ before ++ more
  pub plain : (atom : Atom) → HasItem more atom → IsPlain atom

nothing_behind : (xs : List Atom) → xs ≡ xs ++ []
nothing_behind [] = refl
nothing_behind (x ∷ xs) = ap (λ (l : List Atom). x ∷ l) (nothing_behind xs)

associate : (xs ys zs : List Atom) → (xs ++ ys) ++ zs ≡ xs ++ (ys ++ zs)
associate [] ys zs = refl
associate (x ∷ xs) ys zs = ap (λ (l : List Atom). x ∷ l) (associate xs ys zs)

both_plain : (xs ys : List Atom) → ArePlain xs → ((atom : Atom) → HasItem ys atom → IsPlain atom) → (atom : Atom) → HasItem (xs ++ ys) atom → IsPlain atom
both_plain xs ys h k atom i = elim (has_either xs ys atom i) [ inl j ↦ h atom j | inr j ↦ k atom j ]

judged_more : (t : Turn) (pa : ℕ) (draws : List ℕ) (nodes position : ℕ) (biases : List (List Atom)) (before after : Taken) → AllPlain biases → AreJudged t pa draws nodes position biases before after → AreMore before.atoms after.atoms
judged_more t pa draws nodes position [] before after plain judged = record { more = []; is = ap (λ (k : Taken). k.atoms) judged ∙ nothing_behind before.atoms; plain = λ atom i. absurd i }
judged_more t pa draws nodes position (bias ∷ biases) before after plain (answer, is, rest) = go answer rest (λ k judged. judged_more t pa draws nodes (position + 1) biases k after plain.1 judged)
  where
    go : (answer : Solved) → AreJudged t pa draws nodes (position + 1) biases (kept_with answer position bias before) after
        → ((k : Taken) → AreJudged t pa draws nodes (position + 1) biases k after → AreMore k.atoms after.atoms) → AreMore before.atoms after.atoms
    go (answers.Found x) rest later =
        let m = later (kept_with (answers.Found x) position bias before) rest in
        record { more = bias ++ m.more; is = m.is ∙ associate before.atoms bias m.more; plain = both_plain bias m.more plain.0 m.plain }
    go answers.NoneFits rest later = let m = later (kept_with answers.NoneFits position bias before) rest in record { more = m.more; is = m.is; plain = m.plain }
    go answers.Spent rest later = let m = later (kept_with answers.Spent position bias before) rest in record { more = m.more; is = m.is; plain = m.plain }

pub found_by : (k : ℕ) (w : Whole) (s : Setting) (feet : List Touch) (walk : List Entry) (pa : ℕ) (ws : List Wish) (draws : List ℕ) (nodes : ℕ) (answer : LeafAnswer) (x : Assignment)
    → AnswersAreFound → AllByRecursion IsPlain (atoms_of ws) → AreVectors s.vectors → IsFootprint feet (footprints_of (λ j. records_of j w)) → IsPosed (turn_at s feet k w) walk pa (mandatory_of ws)
    → IsTurnLeafAnswer (turn_at s feet k w) pa (mandatory_of ws) (biases_of ws) draws nodes answer → answer.solved ≡ answers.Found x → IsFound k w pa (values_in x)
found_by k w s feet walk pa ws draws nodes answer x law plain vectors footprint posed (atoms, judged, is) found =
    let turn : Turn = turn_at s feet k w in
    let leaf : List Atom = mandatory_of ws in
    let m = judged_more turn pa draws nodes 0 (biases_of ws) (record { atoms = leaf; dropped = [] }) (record { atoms = atoms; dropped = answer.dropped }) (plain_biases ws plain) judged in
    let one : IsTurnAnswer turn pa (leaf ++ m.more) draws nodes (answers.Found x) =
    subst (λ (l : List Atom). IsTurnAnswer turn pa l draws nodes (answers.Found x)) m.is (subst (λ (o : Solved). IsTurnAnswer turn pa atoms draws nodes o) found is) in
    law k w s feet walk pa leaf m.more draws nodes x vectors footprint
    (record { fetched = posed.fetched; words = posed.words; fixed = posed.fixed; plain = both_plain leaf m.more (each_plain leaf (plain_mandatory ws plain)) m.plain }) one
