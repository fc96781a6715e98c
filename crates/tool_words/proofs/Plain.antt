-- Words whose options are each followed by a number.
use Rattle.std.proofs.Common.{ap₂, nat_lt, ◌≡◌, ◌∙◌, ◌==◌, ◌&&◌, ℕ, Bool, cond, true, false, List, [], ◌∷◌, ◌++◌, Option, Some, None, is_some, refl, sym, ap, subst, codes, arith}
use Rattle.std.specs.Prelude.{find, fold, option_and_then, option_map}
use Rattle.std.specs.Option.{option_map_or}
use Rattle.std.specs.Str.{bytes_eq}
use Rattle.std.specs.Str.Parse.{IsNumeral}
use Rattle.std.proofs.lemmas.Bool.{ne_eqb}
use Rattle.std.proofs.lemmas.Str.Parse.{digit_from_value}
use Rattle.clap.specs.Faults.{bundle_fault, flag_word_fault, step_fault, check_fault, defaults_fault, entered_fault, fault_of, level_fault, settle_fault, turn_fault, walk_fault}
use Rattle.clap.specs.Kinds.{Kinds, or_else}
use Rattle.clap.specs.Lexer.{long_of, long_of_rest, short_of, short_of_rest, strip_byte}
use Rattle.clap.specs.Simple.{Shape, built, entered, label_of, rows_at, subcommand_of}
use Rattle.clap.specs.Walk.{Held, Row, Rule, Step, Text, Walk, after_step, long_or_other, next, option_word, pushed, short_or_plain, trailing, answers_to, arg_by_id, finished, idle, most_values, nothing_held, option, rows_after, settled, settled_rows, walk, walk_from, walked}
use Rattle.clap.proofs.WalkLemmas.{walk_stopped}
use Rattle.tool_words.specs.App.{testgen_app}
use Rattle.tool_words.proofs.Top.{names, subs, top}

-- ---- the name of a command

pub all_pass : (a b : Kinds) → a ≡ [] → b ≡ [] → or_else a b ≡ []
all_pass a b none then = ap (λ (x : Kinds). or_else x b) none ∙ then

-- past the name of a subcommand the top refuses nothing
stopped_passes : (w : Walk) (p : Text × List Text) (rest : List Text) → walk_fault top names (record w { stopped = Some p }) rest ≡ []
unfolding walk_fault walked
stopped_passes w p [] = refl
stopped_passes w p (word ∷ rest) = stopped_passes w (p.0, p.1 ++ word ∷ []) rest

module _ (name : Text) (s : Shape) (rest : List Text) (turn : turn_fault top names (walk_from nothing_held) name ≡ [])
    (first : walked top.rules names (walk_from nothing_held) name ≡ record (walk_from nothing_held) { stopped = Some (name, []) })
    (found : find (λ s. answers_to name (label_of s)) subs ≡ Some s) where
  ends : walk top.rules names nothing_held (name ∷ rest) ≡ record (walk_from nothing_held) { stopped = Some (name, rest) }
  ends = ap (λ (w : Walk). fold (walked top.rules names) w rest) first ∙ sym (walk_stopped top.rules names (walk_from nothing_held) name [] rest)

  pub taken_over : subcommand_of testgen_app (codes "testgen" ∷ name ∷ rest) ≡ Some (s.name, rows_after s.rules [] rest)
  taken_over = ap (λ (w : Walk). entered (built testgen_app) w.stopped) ends ∙ ap (option_map (λ (s : Shape). rows_at s rest)) found

  -- what is left to check at the top, by where its walk ends
  abbrev left : Walk → Kinds
  left w = or_else (entered_fault (built testgen_app) w.stopped) (or_else (settle_fault top.rules false w.held)
      (or_else (defaults_fault (settled top.rules w.held).rows top.rules) (check_fault top (finished top.rules w.held) (is_some (entered (built testgen_app) w.stopped)))))

  abbrev left_found : Option Shape → Kinds
  left_found o = or_else (option_map_or (λ s. level_fault s [] nothing_held rest false []) o []) (check_fault top (finished top.rules nothing_held) (is_some (option_map (λ s. rows_at s rest) o)))

  pub passed_on : level_fault s [] nothing_held rest false [] ≡ [] → fault_of testgen_app (codes "testgen" ∷ name ∷ rest) ≡ []
  unfolding walk_fault defaults_fault
  passed_on level =
      let walks : walk_fault top names (walked top.rules names (walk_from nothing_held) name) rest ≡ [] = subst (λ (w : Walk). walk_fault top names w rest ≡ []) (sym first) (stopped_passes (walk_from nothing_held) (name, []) rest) in
      let passes : left_found (Some s) ≡ [] = all_pass (level_fault s [] nothing_held rest false []) _ level refl in
      all_pass (walk_fault top names (walk_from nothing_held) (name ∷ rest)) _ (all_pass (turn_fault top names (walk_from nothing_held) name) _ turn walks)
      (ap left ends ∙ ap left_found found ∙ passes)

-- ---- options and their values

-- a word that is no option
pub record IsValue (word : Text) : Type 0 where
  pub no_dashes : bytes_eq word (45 ∷ 45 ∷ []) ≡ false
  pub no_long : long_of word ≡ None
  pub no_short : short_of word ≡ None

pub digits_are : (word : Text) → IsNumeral 10 word → IsValue word
digits_are [] h = absurd (omega arith)
digits_are (d ∷ ds) h =
    let plain : (d == 45) ≡ false = ne_eqb _ _ (λ e. omega (arith, digit_from_value d h.1.0)) in
    let none : strip_byte 45 (d ∷ ds) ≡ None = ap (λ (b : Bool). cond b (Some ds) None) plain in
    record {
      no_dashes = ap (λ (b : Bool). b && bytes_eq ds (45 ∷ [])) plain;
      no_long = ap (λ (o : Option Text). option_and_then long_of_rest (option_and_then (strip_byte 45) o)) none;
      no_short = ap (λ (o : Option Text). option_and_then short_of_rest o) none;
    }

-- what is held between two words
abbrev pub held : List Row → Option (Text × List Text) → Held
held rows pending = record { rows = rows; pending = pending; skip = 0 }

abbrev pub at : List Row → Option (Text × List Text) → Walk
at rows pending = walk_from (held rows pending)

-- an option waits for its value
abbrev pub waiting_at : List Row → Text → Walk
waiting_at rows id = record (walk_from (held rows (Some (id, [])))) { waiting = option id }

module _ (id word : Text) (rows : List Row) (is : IsValue word) where
  value_walked : (c : List Rule) (a : Rule) → arg_by_id c id ≡ Some a → bytes_eq id a.id ≡ true → most_values a ≡ 1 → walked c [] (waiting_at rows id) word ≡ at rows (Some (id, word ∷ []))
  unfolding walked
  value_walked c a own same one =
      ap (λ (b : Bool). ends (cond b (before, trailing 1) (long_or_other c (option id) word (long_of word) before))) is.no_dashes
      ∙ ap (λ (o : Option (Text × Option Text)). ends (long_or_other c (option id) word o before)) is.no_long
      ∙ ap (λ (o : Option Text). ends (short_or_plain c (option id) word o before)) is.no_short
      ∙ ap (λ (o : Option Rule). ends ((option_word o id word before).0, next (option_word o id word before).1)) own
      ∙ ap₂ (λ (b : Bool) (n : ℕ). ends (pushed id word before, next (cond (nat_lt (cond b 1 0) n) (option id) idle))) same one
    where
      before : Held
      before = held rows (Some (id, []))

      ends : Held × Step → Walk
      ends step = after_step c word (waiting_at rows id) step.0 step.1

  value_passes : (s : Shape) → turn_fault s [] (waiting_at rows id) word ≡ []
  value_passes s =
      ap (λ (b : Bool). ends (cond b [] (flag_word_fault s.rules s.args_override_self (long_of word) word before)) (cond b (before, trailing 1) (long_or_other s.rules (option id) word (long_of word) before))) is.no_dashes
      ∙ ap (λ (o : Option (Text × Option Text)). ends (flag_word_fault s.rules s.args_override_self o word before) (long_or_other s.rules (option id) word o before)) is.no_long
      ∙ ap (λ (o : Option Text). ends (option_map_or (λ flags. bundle_fault s.rules s.args_override_self flags before) o []) (short_or_plain s.rules (option id) word o before)) is.no_short
    where
      before : Held
      before = held rows (Some (id, []))

      ends : Kinds → Held × Step → Kinds
      ends fault step = or_else fault (step_fault s 1 step.0 step.1)

-- an option of a command, spelled as this flag
pub record IsOption (s : Shape) (flag id : Text) : Type 0 where
  pub arg : Rule
  pub own : arg_by_id s.rules id ≡ Some arg
  pub same : bytes_eq id arg.id ≡ true
  pub one : most_values arg ≡ 1
  pub opens : (rows : List Row) (pending : Option (Text × List Text)) → walked s.rules [] (at rows pending) flag ≡ waiting_at (settled_rows s.rules pending rows) id
  pub settles : (rows : List Row) (pending : Option (Text × List Text)) → turn_fault s [] (at rows pending) flag ≡ or_else (settle_fault s.rules false (held rows pending)) []

-- an option and its value
module _ (s : Shape) (flag id word : Text) (is_option : IsOption s flag id) (is : IsValue word) (rows : List Row) (pending : Option (Text × List Text)) (rest : List Text) where
  abbrev after : Walk
  after = at (settled_rows s.rules pending rows) (Some (id, word ∷ []))

  pair_walked : walked s.rules [] (walked s.rules [] (at rows pending) flag) word ≡ after
  pair_walked = ap (λ (w : Walk). walked s.rules [] w word) (is_option.opens rows pending)
      ∙ value_walked id word (settled_rows s.rules pending rows) is s.rules is_option.arg is_option.own is_option.same is_option.one

  pub pair_walk : fold (walked s.rules []) (at rows pending) (flag ∷ word ∷ rest) ≡ fold (walked s.rules []) after rest
  pair_walk = ap (λ (w : Walk). fold (walked s.rules []) w rest) pair_walked

  pub pair_passes : settle_fault s.rules false (held rows pending) ≡ [] → walk_fault s [] after rest ≡ [] → walk_fault s [] (at rows pending) (flag ∷ word ∷ rest) ≡ []
  unfolding walk_fault
  pair_passes settles later =
      let value : turn_fault s [] (walked s.rules [] (at rows pending) flag) word ≡ [] = subst (λ (w : Walk). turn_fault s [] w word ≡ []) (sym (is_option.opens rows pending)) (value_passes id word (settled_rows s.rules pending rows) is s) in
      let others : walk_fault s [] (walked s.rules [] (walked s.rules [] (at rows pending) flag) word) rest ≡ [] = subst (λ (w : Walk). walk_fault s [] w rest ≡ []) (sym pair_walked) later in
      all_pass (turn_fault s [] (at rows pending) flag) _ (is_option.settles rows pending ∙ all_pass (settle_fault s.rules false (held rows pending)) [] settles refl)
      (all_pass (turn_fault s [] (walked s.rules [] (at rows pending) flag) word) (walk_fault s [] (walked s.rules [] (walked s.rules [] (at rows pending) flag) word) rest) value others)

-- a whole level, by where its walk ends
pub level_passes : (s : Shape) (words : List Text) (w : Walk) → walk s.rules [] nothing_held words ≡ w → walk_fault s [] (walk_from nothing_held) words ≡ []
    → settle_fault s.rules s.args_override_self w.held ≡ [] → defaults_fault (settled s.rules w.held).rows s.rules ≡ [] → check_fault s (finished s.rules w.held) false ≡ []
    → level_fault s [] nothing_held words false [] ≡ []
level_passes s words w ends walks settles defaults checks =
    all_pass (walk_fault s [] (walk_from nothing_held) words) _ walks
    (ap (λ (w : Walk). or_else (settle_fault s.rules s.args_override_self w.held) (or_else (defaults_fault (settled s.rules w.held).rows s.rules) (check_fault s (finished s.rules w.held) false))) ends
    ∙ all_pass (settle_fault s.rules s.args_override_self w.held) _ settles (all_pass (defaults_fault (settled s.rules w.held).rows s.rules) _ defaults checks))
