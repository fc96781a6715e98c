-- The step of an answer, with the names that it binds and the biases that it drops.
use Rattle.std.proofs.Common.{◌≡◌, ◌≢◌, ℕ, Bool, List, length, map, Option, refl, ap, ◌∙◌}
use Rattle.std.proofs.Math.Path.{fun_ext}
use Rattle.rv_script.specs.Logs.{enlarged}
use Rattle.rv_hart.specs.declared.record.Record.{Record}
use Rattle.rv_hart.specs.Clauses.{IsFitRecord}
use Rattle.tpl_ast.specs.declared.template.Var.{Var}
use Rattle.tpl_ast.specs.declared.template.Var.TheVariants as vars
use Rattle.tpl_ast.specs.declared.template.Wish.{Wish}
use Rattle.tpl_admit.specs.Variables.{Moment, value_of}
use Rattle.part_machine.specs.Whole.{Whole, hart_of, records_of}
use Rattle.part_state.specs.Meaning.{IsTest}
use Rattle.leaf_link.specs.Candidates.{registers_from}
use Rattle.leaf_link.specs.Values.{Values}
use Rattle.turn_laws.specs.Given.{known_at}
use Rattle.leaf_turn.specs.Answers.{IsStill, IsTakenBy, new_at}
use Rattle.gen_turn.specs.Grounds.{IsOfWords, IsSameGround}
use Rattle.gen_turn.specs.Turns.{IsLeafTaken, listed_as, moment_at, names_bound, with_all_dropped, with_names}
use Rattle.gen_turn.proofs.Elsewhere.{all_words}
use Rattle.gen_turn.proofs.Names.{many_bound}

-- the value of a variable rests on the record and the registers before it alone
same_value : (m n : Moment) (v : Var) → m.done ≡ n.done → m.regs ≡ n.regs → value_of v m ≡ value_of v n
same_value m n v done regs =
    of v m
    ∙ ap (λ (r : Record). value_of v (record { done = r; regs = m.regs; names = n.names; others = n.others })) done
    ∙ ap (λ (rs : List (Option ℕ)). value_of v (record { done = n.done; regs = rs; names = n.names; others = n.others })) regs
  where
    of : (v : Var) (m : Moment) → value_of v m ≡ value_of v (record { done = m.done; regs = m.regs; names = n.names; others = n.others })
    of vars.Op m = refl
    of vars.Rs1 m = refl
    of vars.Rs2 m = refl
    of vars.Rd m = refl
    of vars.Imm m = refl
    of vars.Csr m = refl
    of vars.Ea m = refl
    of vars.A m = refl
    of vars.B m = refl
    of vars.Pa m = refl
    of vars.Target m = refl
    of vars.Outcome m = refl

module _ (k : ℕ) (ws : List Wish) (dropped : List (ℕ × Bool)) (old stepped bound after : Whole) (m : Moment) (step : ℕ)
    (names : bound ≡ with_names (names_bound (λ v. value_of v m) dropped 0 ws stepped.names) stepped)
    (lists : after ≡ with_all_dropped (map (listed_as k step ws) dropped) bound) where
  pub taken_leaf : (x : Values) (done : Record) → IsTakenBy k x done old stepped → m.done ≡ done → m.regs ≡ registers_from (enlarged (known_at k old) (new_at k old x)) 0 32 → step ≡ length (records_of k old) → IsFitRecord done → IsTest after → IsOfWords k after → IsLeafTaken k ws dropped x old after
  taken_leaf x done taken is_done are_regs is_step fit test words =
      let values : (λ (v : Var). value_of v m) ≡ (λ v. value_of v (moment_at k x done old)) = fun_ext (λ v. same_value m (moment_at k x done old) v is_done are_regs) in
      record {
        done = done;
        fit = fit;
        stepped = stepped;
        taken = taken;
        is =
            lists
            ∙ ap (λ (n : ℕ). with_all_dropped (map (listed_as k n ws) dropped) bound) is_step
            ∙ ap (with_all_dropped (map (listed_as k (length (records_of k old)) ws) dropped))
            (names ∙ ap (λ (f : Var → Option ℕ). with_names (names_bound f dropped 0 ws stepped.names) stepped) values);
        test = test;
        words = words;
      }

  pub same_after : after ≡ with_all_dropped (map (listed_as k step ws) dropped) (with_names (names_bound (λ v. value_of v m) dropped 0 ws stepped.names) stepped)
  same_after = lists ∙ ap (with_all_dropped (map (listed_as k step ws) dropped)) names

  pub same_ground : IsStill old stepped → ((j : ℕ) → j ≢ k → hart_of j stepped ≡ hart_of j old) → IsTest after → IsOfWords k after → IsSameGround old after
  same_ground still others test words = record {
    harts = ap (λ (w : Whole). length w.harts) same_after ∙ still.harts;
    names = ap (λ (w : Whole). length w.names) same_after ∙ many_bound (λ v. value_of v m) dropped 0 ws stepped.names ∙ ap length still.names;
    test = λ before. test;
    words = all_words k old after (λ j other. ap (λ (w : Whole). hart_of j w) same_after ∙ others j other) words;
  }
