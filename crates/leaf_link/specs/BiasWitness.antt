-- A leaf with a problem of a solver, of whose two biases one is kept and the other dropped.
use Rattle.std.specs.Prelude.{◌≡◌, ℕ, ◌^◌, true, false, List, [], ◌∷◌}
use Rattle.rv_isa.specs.declared.operation.Op.TheVariants.{Addi}
use Rattle.sv_walk.specs.declared.entry.Kind.TheVariants.{Load as ForLoad, Store as ForStore}
use Rattle.tpl_ast.specs.declared.template.Atom.{Atom}
use Rattle.tpl_ast.specs.declared.template.Atom.TheVariants as atoms
use Rattle.tpl_ast.specs.declared.template.Var.TheVariants as vars
use Rattle.fd_prob.specs.declared.problem.Assignment.{Assignment}
use Rattle.fd_prob.specs.declared.problem.Extra.{Extra}
use Rattle.fd_prob.specs.declared.problem.Problem.{Problem}
use Rattle.fd_prob.specs.declared.slot.Slot.TheVariants as slots
use Rattle.fd_prob.specs.Relations.{value_of}
use Rattle.fd_solve.specs.declared.answers.LeafAnswer.{LeafAnswer}
use Rattle.fd_solve.specs.declared.answers.Solved.TheVariants as answers
use Rattle.fd_solve.specs.Answers.{IsLeafAnswer}
use Rattle.rv_isa.specs.Numbers.{op_number}
use Rattle.leaf_link.specs.Cases.{HasSources}
use Rattle.leaf_link.specs.KindLaws.{IsPosed}
use Rattle.leaf_link.specs.Reaching.{AreRows, HasPages}
use Rattle.leaf_link.specs.Firsts.{IsPosedProblem}
use Rattle.leaf_link.specs.Extras.{AllPlain, ArePosedExtras}
use Rattle.leaf_link.specs.Witnesses.{bare_rows, busy_turn}

-- `do op in {addi}; rd in {5, 6}; rs1 in {0}; imm in {7}; outcome in {retire}`
abbrev pub choice_leaf : List Atom
choice_leaf = atoms.In vars.Op (op_number Addi ∷ []) ∷ atoms.In vars.Rd (5 ∷ 6 ∷ []) ∷ atoms.In vars.Rs1 (0 ∷ []) ∷ atoms.In vars.Imm (7 ∷ []) ∷ atoms.In vars.Outcome (255 ∷ []) ∷ []

-- `rd in {N}`
abbrev pub rd_in : ℕ → List Atom
rd_in n = atoms.In vars.Rd (n ∷ []) ∷ []

-- `prefer rd in {5}; prefer rd in {6}`
abbrev pub choice_biases : List (List Atom)
choice_biases = rd_in 5 ∷ rd_in 6 ∷ []

abbrev pub no_draws : List ℕ
no_draws = 0 ∷ 0 ∷ 0 ∷ 0 ∷ 0 ∷ 0 ∷ 0 ∷ 0 ∷ 0 ∷ 0 ∷ 0 ∷ 0 ∷ 0 ∷ 0 ∷ 0 ∷ 0 ∷ []

-- what is found has this value for rd
pub record IsFoundWith (answer : LeafAnswer) (rd : ℕ) : Type 0 where
  pub assignment : Assignment
  pub is : answer.solved ≡ answers.Found assignment
  pub has : value_of assignment slots.Rd ≡ rd

-- the premises of the law on kept biases are met together; the first bias is kept, and the second one is dropped, since nothing fits with it
pub record HaveKeptBias : Type 0 where
  pub problem : Problem
  pub extras : List Extra
  pub answer : LeafAnswer
  pub posed : IsPosed busy_turn [] 0x8000_0000 choice_leaf
  pub sources : HasSources busy_turn choice_leaf
  pub plain : AllPlain choice_biases
  pub inside : HasPages busy_turn choice_leaf (λ ea. true)
  pub loads : AreRows busy_turn (λ ea. true) ForLoad (bare_rows ForLoad)
  pub stores : AreRows busy_turn (λ ea. true) ForStore (bare_rows ForStore)
  pub is_problem : IsPosedProblem busy_turn [] 0x8000_0000 choice_leaf (bare_rows ForLoad) (bare_rows ForStore) no_draws problem
  pub are_extras : ArePosedExtras busy_turn choice_biases problem extras
  pub answered : IsLeafAnswer problem extras (2 ^ 26) answer
  pub kept : IsFoundWith answer 5
  pub dropped : answer.dropped ≡ (1, false) ∷ []
