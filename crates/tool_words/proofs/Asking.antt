-- The laws of words.
use Rattle.std.proofs.Common.{false, ◌≡◌, ◌∙◌, ℕ, List, [], ◌∷◌, Option, Some, None, refl, sym, ap, subst, inl, inr, codes, arith}
use Rattle.std.specs.Prelude.{option_and_then, option_map}
use Rattle.std.proofs.lemmas.Option.{same_Some}
use Rattle.clap.specs.Simple.{Shape, new_app, subcommand_of}
use Rattle.clap.specs.Walk.{Text, rows_after, walked}
use Rattle.clap.specs.declared.builder.value_parser.ValueParser.TheVariants.{Unsigned}
use Rattle.clap.proofs.ValueTestLemmas.{accepts-Accepts}
use Rattle.tool_words.specs.App.{demo_app, exec_app, gen_app, testgen_app}
use Rattle.tool_words.specs.Commands.{IsCommand, asked_in, effort_in, number_of}
use Rattle.tool_words.specs.Forms.{AcceptedAsk, AreBudgets, AreDigitsOf, ArePlain, AskForOne, IsInRange, LieInRanges, OutOfRangeAskForNone, PlainAsk, StartWithNames, name_of}
use Rattle.tool_words.specs.declared.command.Command.{Command}
use Rattle.tool_words.specs.declared.command.Command.TheVariants.{Gen, Replay, Exec, Show, Demo}
use Rattle.tool_words.specs.declared.command.Effort.{Effort}
use Rattle.tool_words.proofs.Forms.{Gives, nodes_turns, numeral_only, numeral_read, numeral_taken, order_is, order_passes, replay_passes, seed_alone, show_passes, steps_is, steps_passes, turns_nodes, with_nodes, with_turns}
use Rattle.tool_words.proofs.Leaves.{leaf}
use Rattle.tool_words.proofs.Plain.{IsValue, digits_are, passed_on, taken_over}
use Rattle.tool_words.proofs.Top.{accepted}

-- ---- what every command's words say

pub one : AskForOne
one words command other is also = same_Some _ _ (sym is.asked ∙ also.asked)

pub accepted_ask : AcceptedAsk
accepted_ask words = (λ none. let found = accepted words none in (found.0, record { accepted = none; asked = found.1 }), λ found. found.1.accepted)

pub start_with_names : StartWithNames
start_with_names words command is =
    let found = accepted words is.accepted in
    let same : found.0 ≡ command = same_Some _ _ (sym found.1 ∙ is.asked) in
    subst (λ (c : Command). (rest : List Text) × (words ≡ name_of c ∷ rest)) same found.3

pub lie_in_ranges : LieInRanges
lie_in_ranges words command is =
    let found = accepted words is.accepted in
    let same : found.0 ≡ command = same_Some _ _ (sym found.1 ∙ is.asked) in
    subst IsInRange same found.2

-- ---- gen

abbrev gen_shape : Shape
gen_shape = leaf gen_app.top

abbrev effort_by : Text → Text → Text → Option Effort
effort_by s n t = option_and_then (λ seed. option_and_then (λ nodes. option_map (λ turns. record { seed = seed; nodes = nodes; turns = turns }) (number_of 64 t)) (number_of 64 n)) (number_of 64 s)

-- the words ask for what their texts spell
gen_asks : (words : List Text) (s n t : Text) → Gives words s n t → asked_in (subcommand_of testgen_app (codes "testgen" ∷ codes "gen" ∷ words)) ≡ option_map (λ e. Gen e) (effort_by s n t)
unfolding walked
gen_asks words s n t gives =
    let efforts : effort_in (rows_after gen_shape.rules [] words) ≡ effort_by s n t =
    λ i. option_and_then (λ seed. option_and_then (λ nodes. option_map (λ turns. record { seed = seed; nodes = nodes; turns = turns }) (option_and_then (number_of 64) (gives.turns_is i)))
    (option_and_then (number_of 64) (gives.nodes_is i))) (option_and_then (number_of 64) (gives.seed_is i)) in
    ap asked_in (taken_over (codes "gen") gen_shape words refl refl refl) ∙ ap (option_map (λ e. Gen e)) efforts

effort_read : (e : Effort) (s n t : Text) → AreDigitsOf e.seed s → AreDigitsOf e.nodes n → AreDigitsOf e.turns t → IsInRange (Gen e) → effort_by s n t ≡ Some e
effort_read e s n t seed nodes turns range =
    λ i. option_and_then (λ x. option_and_then (λ y. option_map (λ z. record { seed = x; nodes = y; turns = z }) (numeral_read 64 e.turns t turns (omega arith) (omega arith) i))
    (numeral_read 64 e.nodes n nodes (omega arith) (omega arith) i)) (numeral_read 64 e.seed s seed (omega arith) (omega arith) i)

effort_only : (e : Effort) (s n t : Text) → AreDigitsOf e.seed s → AreDigitsOf e.nodes n → AreDigitsOf e.turns t → (other : Command) → option_map (λ e. Gen e) (effort_by s n t) ≡ Some other → other ≡ Gen e
effort_only e s n t seed nodes turns other asked = go (number_of 64 s) (number_of 64 n) (number_of 64 t) refl refl refl asked
  where
    go : (a b c : Option ℕ) → number_of 64 s ≡ a → number_of 64 n ≡ b → number_of 64 t ≡ c
        → option_map (λ e. Gen e) (option_and_then (λ x. option_and_then (λ y. option_map (λ z. record { seed = x; nodes = y; turns = z }) c) b) a) ≡ Some other → other ≡ Gen e
    go (Some x) (Some y) (Some z) p q r asked =
        let a = numeral_only 64 e.seed x s seed p in
        let b = numeral_only 64 e.nodes y n nodes q in
        let c = numeral_only 64 e.turns z t turns r in
        sym (same_Some _ _ asked) ∙ (λ i. Gen (record { seed = a i; nodes = b i; turns = c i }))
    go None b c p q r asked = cc
    go (Some x) None c p q r asked = cc
    go (Some x) (Some y) None p q r asked = cc

-- the numerals of the defaults
usual_nodes : AreDigitsOf 67108864 (codes "67108864")
usual_nodes = record { digits = (accepts-Accepts false (Unsigned 0 0xffff_ffff_ffff_ffff) (codes "67108864") refl).0; value = refl }

usual_turns : AreDigitsOf 65536 (codes "65536")
usual_turns = record { digits = (accepts-Accepts false (Unsigned 0 0xffff_ffff_ffff_ffff) (codes "65536") refl).0; value = refl }

two_options : (seed n t first second : Text) (option other word last : Text) → option ≡ first → other ≡ second → Gives (codes "--seed" ∷ seed ∷ first ∷ word ∷ second ∷ last ∷ []) seed n t
    → Gives (codes "--seed" ∷ seed ∷ option ∷ word ∷ other ∷ last ∷ []) seed n t
two_options seed n t first second option other word last a b gives =
    subst (λ (ws : List Text). Gives (codes "--seed" ∷ seed ∷ ws) seed n t) (λ i. sym a i ∷ word ∷ sym b i ∷ last ∷ []) gives

exec_asks : (word : Text) → IsValue word → asked_in (subcommand_of testgen_app (codes "testgen" ∷ codes "exec" ∷ codes "--order" ∷ word ∷ [])) ≡ option_map (λ n. Exec n) (number_of 64 word)
unfolding walked
exec_asks word is = ap asked_in (taken_over (codes "exec") (leaf exec_app.top) (codes "--order" ∷ word ∷ []) refl refl refl) ∙ ap (λ o. option_map (λ n. Exec n) (option_and_then (number_of 64) o)) (order_is word is)

demo_asks : (word : Text) → IsValue word → asked_in (subcommand_of testgen_app (codes "testgen" ∷ codes "demo" ∷ word ∷ [])) ≡ option_map (λ n. Demo n) (number_of 32 word)
unfolding walked
demo_asks word is = ap asked_in (taken_over (codes "demo") (leaf demo_app.top) (word ∷ []) refl refl refl) ∙ ap (λ o. option_map (λ n. Demo n) (option_and_then (number_of 32) o)) (steps_is word is)

-- the texts of plain budgets
budgets_given : (seed : Text) (e : Effort) (budgets : List Text) → AreDigitsOf e.seed seed → AreBudgets budgets e.nodes e.turns
    → (n : Text) × (t : Text) × Gives (codes "--seed" ∷ seed ∷ budgets) seed n t × AreDigitsOf e.nodes n × AreDigitsOf e.turns t
budgets_given seed e [] is are =
    (codes "67108864", codes "65536", seed_alone seed (digits_are seed is.digits), subst (λ k. AreDigitsOf k (codes "67108864")) (sym are.0) usual_nodes, subst (λ k. AreDigitsOf k (codes "65536")) (sym are.1) usual_turns)
budgets_given seed e (x ∷ []) is are = absurd are
budgets_given seed e (option ∷ word ∷ []) is (inl are) = (
  word,
  codes "65536",
  subst (λ (o : Text). Gives (codes "--seed" ∷ seed ∷ o ∷ word ∷ []) seed word (codes "65536")) (sym are.0) (with_nodes seed (digits_are seed is.digits) word (digits_are word are.1.digits)),
  are.1,
  subst (λ k. AreDigitsOf k (codes "65536")) (sym are.2) usual_turns,
)
budgets_given seed e (option ∷ word ∷ []) is (inr are) = (
  codes "67108864",
  word,
  subst (λ (o : Text). Gives (codes "--seed" ∷ seed ∷ o ∷ word ∷ []) seed (codes "67108864") word) (sym are.0) (with_turns seed (digits_are seed is.digits) word (digits_are word are.2.digits)),
  subst (λ k. AreDigitsOf k (codes "67108864")) (sym are.1) usual_nodes,
  are.2,
)
budgets_given seed e (x ∷ y ∷ z ∷ []) is are = absurd are
budgets_given seed e (option ∷ word ∷ other ∷ last ∷ []) is (inl are) = (
  word,
  last,
  two_options seed word last _ _ option other word last are.0 are.2 (nodes_turns seed (digits_are seed is.digits) word last (digits_are word are.1.digits) (digits_are last are.3.digits)),
  are.1,
  are.3,
)
budgets_given seed e (option ∷ word ∷ other ∷ last ∷ []) is (inr are) = (
  last,
  word,
  two_options seed last word _ _ option other word last are.0 are.2 (turns_nodes seed (digits_are seed is.digits) last word (digits_are last are.3.digits) (digits_are word are.1.digits)),
  are.3,
  are.1,
)
budgets_given seed e (x ∷ y ∷ z ∷ w ∷ v ∷ more) is are = absurd are

-- ---- plain words

plain_accepted : (words : List Text) (command : Command) → ArePlain command words → IsInRange command → IsCommand words command
unfolding walked
plain_accepted words (Gen e) plain range =
    let given = budgets_given plain.0 e plain.1 plain.3 plain.4 in
    let passes = given.2.passes (numeral_taken 0 0xffff_ffff_ffff_ffff e.seed plain.0 plain.3 (omega arith) (omega arith) (omega arith)) (numeral_taken 1 1000000000 e.nodes given.0 given.3 (omega arith) (omega arith) (omega arith))
    (numeral_taken 1 1000000 e.turns given.1 given.4 (omega arith) (omega arith) (omega arith)) in
    subst (λ (ws : List Text). IsCommand ws (Gen e)) (sym plain.2) (record {
      accepted = passed_on (codes "gen") gen_shape (codes "--seed" ∷ plain.0 ∷ plain.1) refl refl refl passes;
      asked = gen_asks (codes "--seed" ∷ plain.0 ∷ plain.1) plain.0 given.0 given.1 given.2 ∙ ap (option_map (λ e. Gen e)) (effort_read e plain.0 given.0 given.1 plain.3 given.3 given.4 range);
    })
plain_accepted words Replay plain range = subst (λ (ws : List Text). IsCommand ws Replay) (sym plain) (record {
  accepted = passed_on (codes "replay") (leaf (new_app (codes "replay")).top) [] refl refl refl replay_passes;
  asked = ap asked_in (taken_over (codes "replay") (leaf (new_app (codes "replay")).top) [] refl refl refl);
})
plain_accepted words (Exec order) plain range =
    let is = digits_are plain.0 plain.2.digits in
    subst (λ (ws : List Text). IsCommand ws (Exec order)) (sym plain.1) (record {
      accepted = passed_on (codes "exec") (leaf exec_app.top) (codes "--order" ∷ plain.0 ∷ []) refl refl refl (order_passes plain.0 is (numeral_taken 0 0xffff_ffff_ffff_ffff order plain.0 plain.2 (omega arith) (omega arith) (omega arith)));
      asked = exec_asks plain.0 is ∙ ap (option_map (λ n. Exec n)) (numeral_read 64 order plain.0 plain.2 (omega arith) (omega arith));
    })
plain_accepted words Show plain range = subst (λ (ws : List Text). IsCommand ws Show) (sym plain) (record {
  accepted = passed_on (codes "show") (leaf (new_app (codes "show")).top) [] refl refl refl show_passes;
  asked = ap asked_in (taken_over (codes "show") (leaf (new_app (codes "show")).top) [] refl refl refl);
})
plain_accepted words (Demo steps) plain range =
    let is = digits_are plain.0 plain.2.digits in
    subst (λ (ws : List Text). IsCommand ws (Demo steps)) (sym plain.1) (record {
      accepted = passed_on (codes "demo") (leaf demo_app.top) (plain.0 ∷ []) refl refl refl (steps_passes plain.0 is (numeral_taken 0 2000 steps plain.0 plain.2 (omega arith) (omega arith) (omega arith)));
      asked = demo_asks plain.0 is ∙ ap (option_map (λ n. Demo n)) (numeral_read 32 steps plain.0 plain.2 (omega arith) (omega arith));
    })

pub plain_ask : PlainAsk
plain_ask = plain_accepted

-- a number that stands alone
number_only : (make : ℕ → Command) (bits n : ℕ) (word : Text) → AreDigitsOf n word → (other : Command) → option_map make (number_of bits word) ≡ Some other → other ≡ make n
number_only make bits n word are other asked = go (number_of bits word) refl asked
  where
    go : (o : Option ℕ) → number_of bits word ≡ o → option_map make o ≡ Some other → other ≡ make n
    go (Some m) read asked = sym (same_Some _ _ asked) ∙ ap make (numeral_only bits n m word are read)
    go None read asked = cc

-- plain words ask for no other command
plain_only : (words : List Text) (command : Command) → ArePlain command words → (other : Command) → IsCommand words other → other ≡ command
unfolding walked
plain_only words (Gen e) plain other is =
    let given = budgets_given plain.0 e plain.1 plain.3 plain.4 in
    let asked = subst (λ (ws : List Text). IsCommand ws other) plain.2 is in
    effort_only e plain.0 given.0 given.1 plain.3 given.3 given.4 other (sym (gen_asks (codes "--seed" ∷ plain.0 ∷ plain.1) plain.0 given.0 given.1 given.2) ∙ asked.asked)
plain_only words Replay plain other is =
    let asked = subst (λ (ws : List Text). IsCommand ws other) plain is in
    sym (same_Some _ _ (sym (ap asked_in (taken_over (codes "replay") (leaf (new_app (codes "replay")).top) [] refl refl refl)) ∙ asked.asked))
plain_only words (Exec order) plain other is =
    let asked = subst (λ (ws : List Text). IsCommand ws other) plain.1 is in
    number_only (λ n. Exec n) 64 order plain.0 plain.2 other (sym (exec_asks plain.0 (digits_are plain.0 plain.2.digits)) ∙ asked.asked)
plain_only words Show plain other is =
    let asked = subst (λ (ws : List Text). IsCommand ws other) plain is in
    sym (same_Some _ _ (sym (ap asked_in (taken_over (codes "show") (leaf (new_app (codes "show")).top) [] refl refl refl)) ∙ asked.asked))
plain_only words (Demo steps) plain other is =
    let asked = subst (λ (ws : List Text). IsCommand ws other) plain.1 is in
    number_only (λ n. Demo n) 32 steps plain.0 plain.2 other (sym (demo_asks plain.0 (digits_are plain.0 plain.2.digits)) ∙ asked.asked)

pub out_of_range : OutOfRangeAskForNone
out_of_range words command plain outside other is = outside (subst IsInRange (plain_only words command plain other is) (lie_in_ranges words other is))
