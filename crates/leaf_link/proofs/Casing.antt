-- What a bias asks in a case.
use Rattle.std.proofs.Common.{◌≡◌, ℕ, Bool, true, List, Option, refl, sym, ap, ◌∙◌, subst}
use Rattle.std.proofs.lemmas.Bool.{and_parts, and_from}
use Rattle.rv_isa.specs.declared.operation.Op.{Op}
use Rattle.rv_script.specs.Folds.{Answer, Entry}
use Rattle.rv_hart.specs.declared.record.Change.{Change}
use Rattle.tpl_ast.specs.declared.template.Atom.{Atom}
use Rattle.tpl_ast.specs.declared.template.Var.{Var}
use Rattle.tpl_ast.specs.declared.template.Var.TheVariants as vars
use Rattle.fd_prob.specs.declared.slot.Slot.{Slot}
use Rattle.fd_prob.specs.declared.slot.Slot.TheVariants as slots
use Rattle.rv_script.specs.Logs.{value_or}
use Rattle.leaf_link.specs.Turns.{Turn}
use Rattle.leaf_link.specs.Values.{Values}
use Rattle.rv_isa.specs.Numbers.{op_number}
use Rattle.leaf_link.specs.Candidates.{all_met, moment_of}
use Rattle.leaf_link.specs.Cases.{Shape, Way, all_judged, all_relate, all_tests, shape_of, target_at, unless, uses, value_at}
use Rattle.leaf_link.specs.Problems.{bias_cut}
use Rattle.leaf_link.specs.Extras.{AddressesAreWanted, ArePlain, BiasesInCases, MeetsInCase, address_by, address_in, met_by, met_in}
use Rattle.leaf_link.proofs.Truths.{JudgesAll, all_met_by, by_all_met, when}
use Rattle.leaf_link.proofs.Law.{all_without, unless_from, used}
use Rattle.leaf_link.proofs.Biases.{either}
use Rattle.leaf_link.proofs.Both.{Played, each_slot, posed_from, posed_good}

met_of : (t : Turn) (s : Shape) (bias : List Atom) (x : Values) → (g : Played t s x) → met_by t bias x ≡ all_met t (moment_of t g.log g.change) bias
met_of t s bias x g = ap (λ (r : Answer Entry Change). met_in t bias r) g.plays

address_of : (t : Turn) (s : Shape) (x : Values) → (g : Played t s x) → s.reaches ≡ true → address_by t x ≡ g.at
address_of t s x g r =
    ap (λ (a : Answer Entry Change). address_in t a) g.plays
    ∙ ap (λ (o : Option ℕ). value_or o 0) (g.shows.reach ∙ ap (λ (b : Bool). when b g.at) r)

meets_of : (t : Turn) (bias : List Atom) (op : Op) (way : Way) (x : Values) → ArePlain bias → x slots.Op ≡ op_number op → (g : Played t (shape_of op way) x) → JudgesAll t (shape_of op way) (value_at (shape_of op way) t.fixed.pc g.at x) bias → MeetsInCase t bias op way x
meets_of t bias op way x plain number g j =
    let s : Shape = shape_of op way in
    record {
      bias_met = record {
        stays = and_from _ _ j.judged (j.tested vars.Outcome refl);
        cuts = each_slot (λ slot. bias_cut t bias slot (x slot) ≡ true) (record {
          op_slot = subst (λ (n : ℕ). all_tests t bias vars.Op n ≡ true) (sym number) (j.tested vars.Op refl);
          rs1_slot = either t s bias vars.Rs1 (x slots.Rs1) j.judged (λ u. j.tested vars.Rs1 u);
          rs2_slot = either t s bias vars.Rs2 (x slots.Rs2) j.judged (λ u. j.tested vars.Rs2 u);
          imm_slot = either t s bias vars.Imm (x slots.Imm) j.judged (λ u. j.tested vars.Imm u);
          rd_slot = either t s bias vars.Rd (x slots.Rd) j.judged (λ u. j.tested vars.Rd u);
          csr_slot = either t s bias vars.Csr (x slots.Csr) j.judged (λ u. j.tested vars.Csr u);
          ea_slot = either t s bias vars.Ea (x slots.Ea) j.judged (λ u. j.tested vars.Ea u);
          a_slot = either t s bias vars.A (x slots.A) j.judged (λ u. j.tested vars.A u);
          b_slot = either t s bias vars.B (x slots.B) j.judged (λ u. j.tested vars.B u);
          first_slot = refl;
          second_slot = refl;
          data_slot = refl;
          old_slot = refl;
          vector_slot = refl;
        });
        holds = and_from _ _ (sym (all_without s t.fixed.pc g.at x bias plain) ∙ j.relates) (unless_from (uses s vars.Target) (all_tests t bias vars.Target (target_at op t.fixed.pc x)) (λ u. j.tested vars.Target u));
      };
      address = λ r. subst (λ (n : ℕ). all_tests t bias vars.Pa n ≡ true) (sym (address_of t s x g r)) (j.tested vars.Pa r);
    }

judges_of : (t : Turn) (bias : List Atom) (op : Op) (way : Way) (x : Values) → ArePlain bias → x slots.Op ≡ op_number op → (g : Played t (shape_of op way) x) → MeetsInCase t bias op way x → JudgesAll t (shape_of op way) (value_at (shape_of op way) t.fixed.pc g.at x) bias
judges_of t bias op way x plain number g m =
    let s : Shape = shape_of op way in
    let st = and_parts (all_judged s bias) (all_tests t bias vars.Outcome way.outcome) m.bias_met.stays in
    let h = and_parts (all_relate op (value_at s t.fixed.pc 0 x) bias) (unless (uses s vars.Target) (all_tests t bias vars.Target (target_at op t.fixed.pc x))) m.bias_met.holds in
    let cuts = m.bias_met.cuts in
    record { judged = st.0; tested = by_var st.1 h.1 cuts; relates = all_without s t.fixed.pc g.at x bias plain ∙ h.0 }
  where
    by_var : all_tests t bias vars.Outcome way.outcome ≡ true → unless (uses (shape_of op way) vars.Target) (all_tests t bias vars.Target (target_at op t.fixed.pc x)) ≡ true → ((s : Slot) → bias_cut t bias s (x s) ≡ true)
        → (u : Var) → uses (shape_of op way) u ≡ true → all_tests t bias u (value_at (shape_of op way) t.fixed.pc g.at x u) ≡ true
    by_var o k cuts vars.Op u = subst (λ (n : ℕ). all_tests t bias vars.Op n ≡ true) number (cuts slots.Op)
    by_var o k cuts vars.Rs1 u = cuts slots.Rs1
    by_var o k cuts vars.Rs2 u = cuts slots.Rs2
    by_var o k cuts vars.Rd u = cuts slots.Rd
    by_var o k cuts vars.Imm u = cuts slots.Imm
    by_var o k cuts vars.Csr u = cuts slots.Csr
    by_var o k cuts vars.Ea u = cuts slots.Ea
    by_var o k cuts vars.A u = cuts slots.A
    by_var o k cuts vars.B u = cuts slots.B
    by_var o k cuts vars.Pa u = subst (λ (n : ℕ). all_tests t bias vars.Pa n ≡ true) (address_of t (shape_of op way) x g u) (m.address u)
    by_var o k cuts vars.Target u = used (uses (shape_of op way) vars.Target) _ k u
    by_var o k cuts vars.Outcome u = o

pub biases_in_cases : BiasesInCases
unfolding posed_from
biases_in_cases t walk pa leaf bias op ways x f own plain owed way item fit =
    let c = posed_from t walk pa leaf op ways x way item fit.posed fit.fits in
    let g : Played t (shape_of op way) x = (posed_good t walk pa leaf op ways f own owed x c).2 in (
      λ met. meets_of t bias op way x plain fit.fits.op g (by_all_met t (shape_of op way) g.at x (moment_of t g.log g.change) g.shows bias (sym (met_of t (shape_of op way) bias x g) ∙ met)),
      λ m. met_of t (shape_of op way) bias x g ∙ all_met_by t (shape_of op way) g.at x (moment_of t g.log g.change) g.shows bias (judges_of t bias op way x plain fit.fits.op g m),
    )

pub addresses_are_wanted : AddressesAreWanted
unfolding posed_from
addresses_are_wanted t walk pa leaf op ways x f plain owed way item fit reaches =
    let c = posed_from t walk pa leaf op ways x way item fit.posed fit.fits in
    let both = posed_good t walk pa leaf op ways f plain owed x c in
    let good = both.0 in
    let g : Played t (shape_of op way) x = both.2 in
    let met : met_by t leaf x ≡ true = ap (λ (r : Answer Entry Change). met_in t leaf r) good.plays ∙ good.meets.atoms in
    (meets_of t leaf op way x plain fit.fits.op g (by_all_met t (shape_of op way) g.at x (moment_of t g.log g.change) g.shows leaf (sym (met_of t (shape_of op way) leaf x g) ∙ met))).address reaches
