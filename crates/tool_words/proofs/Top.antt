-- The first word: accepted words begin with the name of a command, and what follows is read by its arguments.
use Rattle.std.proofs.Common.{◌≡◌, ◌∙◌, ◌&&◌, ◌||◌, ◌==◌, ◌⊎◌, ℕ, Bool, cond, true, false, List, [], ◌∷◌, drop, length, Option, Some, None, is_some, refl, sym, ap, subst, inl, inr, codes, true≢false}
use Rattle.std.specs.Prelude.{encode_utf8, find, fold, option_map, slice_get}
use Rattle.std.specs.List.{AllByRecursion as Each, list_any}
use Rattle.std.specs.Option.{option_map_or}
use Rattle.std.specs.Str.{bytes_eq, chars}
use Rattle.std.proofs.lemmas.Option.{same_Some}
use Rattle.std.proofs.lemmas.Slice.Eq.{bytes_eq-Decides}
use Rattle.clap.specs.Faults.{bundle_step_fault, long_fault, short_fault, check_fault, defaults_fault, entered_fault, fault_of, flag_word_fault, flags_fault, level_fault, other_fault, settle_fault, step_fault, turn_fault, walk_fault}
use Rattle.clap.specs.Kinds.{Kinds, or_else}
use Rattle.clap.specs.Lexer.{long_of, short_of}
use Rattle.clap.specs.Simple.{Shape, built, entered, help_rule, label_of, names_of, rows_at, subcommand_of}
use Rattle.clap.specs.Walk.{Held, Names, Text, Walk, after_flag, after_step, answers_to, arg_by_short, bundle_met, bundle_step, finished, idle, long_or_other, nothing_held, plain, settled, short_or_plain, trailing, subcommand_met, subcommand_or_other, walk, walk_from, walked}
use Rattle.clap.specs.declared.error.kind.ErrorKind.TheVariants as kind
use Rattle.clap.proofs.WalkLemmas.{walk_stopped}
use Rattle.tool_words.specs.App.{testgen_app}
use Rattle.tool_words.specs.Commands.{asked_in}
use Rattle.tool_words.specs.Forms.{IsInRange, name_of}
use Rattle.tool_words.specs.declared.command.Command.{Command}
use Rattle.tool_words.proofs.Leaves.{Asks, as_built, demo_asks, exec_asks, gen_asks, replay_asks, show_asks}
use Rattle.tool_words.proofs.Walking.{found_in, no_fault, no_faults}

abbrev pub top : Shape
top = (built testgen_app).top

abbrev pub subs : List Shape
subs = (built testgen_app).subs

abbrev pub names : Names
names = names_of (built testgen_app)

alone : (b : Bool) → (b || false) ≡ true → b ≡ true
alone true e = e
alone false e = e

-- the fault of the first word, by the subcommand that it names
abbrev first_fault : Option Text → Text → Kinds
first_fault met word =
    let step = subcommand_or_other top.rules met idle 1 word nothing_held in
    or_else (other_fault top met word nothing_held) (step_fault top 1 step.0 step.1)

-- a word that names no subcommand and is not `--` is refused
long_refused : (p : Text × Option Text) (word : Text) (next : Kinds) → or_else (flag_word_fault top.rules false (Some p) word nothing_held) next ≡ [] → ⊥
long_refused p word next e = go (bytes_eq (codes "help") p.0) p.1 e
  where
    go : (b : Bool) (v : Option Text) → or_else (long_fault top.rules false (cond (b || false) (Some (as_built help_rule)) None) v nothing_held) next ≡ [] → ⊥
    go true (Some v) e = no_fault _ _ e
    go true None e = no_fault _ _ e
    go false v e = no_fault _ _ e

bundle_refused : (ch : ℕ) (rest : Text) (more : Held → Kinds) (next : Kinds) → or_else (short_fault top.rules false (arg_by_short top.rules ch) rest nothing_held more) next ≡ [] → ⊥
bundle_refused ch rest more next e = go (104 == ch) e
  where
    go : (b : Bool) → or_else (short_fault top.rules false (cond (b || false) (Some (as_built help_rule)) None) rest nothing_held more) next ≡ [] → ⊥
    go true e = no_fault _ _ e
    go false e = no_fault _ _ e

short_refused : (flags word : Text) → or_else (flags_fault top.rules false (length flags) flags 0 nothing_held)
    (step_fault top 1 (short_or_plain top.rules idle word (Some flags) nothing_held).0 (short_or_plain top.rules idle word (Some flags) nothing_held).1) ≡ [] → ⊥
unfolding bundle_met flags_fault
short_refused [] word e = no_fault _ _ e
short_refused (x ∷ xs) word e = go (slice_get (chars (x ∷ xs)) 0) e
  where
    go : (o : Option ℕ) → (let met = bundle_step top.rules o (x ∷ xs) 0 plain nothing_held (bundle_met top.rules (length xs)) in
        or_else (bundle_step_fault top.rules false o (x ∷ xs) 0 nothing_held (flags_fault top.rules false (length xs)))
        (step_fault top 1 (after_flag top.rules idle word met.0 met.1).0 (after_flag top.rules idle word met.0 met.1).1)) ≡ [] → ⊥
    go None e = no_fault _ _ e
    go (Some ch) e = bundle_refused ch (drop (length (encode_utf8 ch)) (x ∷ xs)) _ _ e

-- the first word names a subcommand, or is `--`
abbrev IsFirst : Text → Type 0
IsFirst word = ((name : Text) × (subcommand_met names idle word ≡ Some name) × (bytes_eq name (codes "help") ≡ false))
    ⊎ ((subcommand_met names idle word ≡ None) × (bytes_eq word (45 ∷ 45 ∷ []) ≡ true))

first_word : (word : Text) → turn_fault top names (walk_from nothing_held) word ≡ [] → IsFirst word
first_word word e = by_name (subcommand_met names idle word) refl e
  where
    not_help : (b : Bool) → cond (b && true) (kind.DisplayHelp ∷ kind.InvalidSubcommand ∷ []) [] ≡ [] → b ≡ false
    not_help true e = cc
    not_help false e = refl

    by_short : (o : Option Text) → or_else (option_map_or (λ flags. flags_fault top.rules false (length flags) flags 0 nothing_held) o [])
        (step_fault top 1 (short_or_plain top.rules idle word o nothing_held).0 (short_or_plain top.rules idle word o nothing_held).1) ≡ [] → ⊥
    by_short None e = no_fault _ _ e
    by_short (Some flags) e = short_refused flags word e

    by_long : (o : Option (Text × Option Text)) → or_else (flag_word_fault top.rules false o word nothing_held)
        (step_fault top 1 (long_or_other top.rules idle word o nothing_held).0 (long_or_other top.rules idle word o nothing_held).1) ≡ [] → ⊥
    by_long None e = by_short (short_of word) e
    by_long (Some p) e = long_refused p word _ e

    by_dashes : (b : Bool) → subcommand_met names idle word ≡ None → bytes_eq word (45 ∷ 45 ∷ []) ≡ b
        → (let met = cond b (nothing_held, trailing 1) (long_or_other top.rules idle word (long_of word) nothing_held) in
        or_else (cond b [] (flag_word_fault top.rules false (long_of word) word nothing_held)) (step_fault top 1 met.0 met.1)) ≡ [] → IsFirst word
    by_dashes true is dashes e = inr (is, dashes)
    by_dashes false is dashes e = absurd (by_long (long_of word) e)

    by_name : (o : Option Text) → subcommand_met names idle word ≡ o → first_fault o word ≡ [] → IsFirst word
    by_name (Some name) is e = inl (name, is, not_help (bytes_eq name (codes "help")) (no_faults (other_fault top (Some name) word nothing_held) _ e).0)
    by_name None is e = by_dashes (bytes_eq word (45 ∷ 45 ∷ [])) is refl e

-- ---- what is passed on

abbrev pub stop : List Text → Option (Text × List Text)
stop words = (walk top.rules names nothing_held words).stopped

-- the parts of a parse of accepted words
parts : (words : List Text) → fault_of testgen_app (codes "testgen" ∷ words) ≡ []
    → (walk_fault top names (walk_from nothing_held) words ≡ []) × (entered_fault (built testgen_app) (stop words) ≡ []) × (is_some (entered (built testgen_app) (stop words)) ≡ true)
parts words e =
    let end = (walk top.rules names nothing_held words).held in
    let has = is_some (entered (built testgen_app) (stop words)) in
    let below = entered_fault (built testgen_app) (stop words) in
    let settles = settle_fault top.rules false end in
    let defaults = defaults_fault (settled top.rules end).rows top.rules in
    let checks = check_fault top (finished top.rules end) has in
    let first = no_faults (walk_fault top names (walk_from nothing_held) words) (or_else below (or_else settles (or_else defaults checks))) e in
    let second = no_faults below (or_else settles (or_else defaults checks)) first.1 in
    let third = no_faults settles (or_else defaults checks) second.1 in
    let fourth = no_faults defaults checks third.1 in
    (first.0, second.0, wanted has fourth.1)
  where
    wanted : (has : Bool) → check_fault top (finished top.rules (walk top.rules names nothing_held words).held) has ≡ [] → has ≡ true
    wanted true e = refl
    wanted false e = absurd (no_fault _ _ e)

-- the walk after the first word, by the subcommand that it names
abbrev after_first : Option Text → Text → Walk
after_first met word =
    let step = subcommand_or_other top.rules met idle 1 word nothing_held in
    after_step top.rules word (walk_from nothing_held) step.0 step.1

first_walk : (word : Text) → walked top.rules names (walk_from nothing_held) word ≡ after_first (subcommand_met names idle word) word
unfolding walked
first_walk word = refl

-- a subcommand answers to its name alone
only_name : (word name : Text) → subcommand_met names idle word ≡ Some name → word ≡ name
only_name word name e = go (find (answers_to word) names) refl e
  where
    plain_names : Each (λ (s : Text × List Text). s.1 ≡ []) names
    plain_names = (refl, (refl, (refl, (refl, (refl, (refl, tt))))))

    same : (s : Text × List Text) → s.1 ≡ [] → answers_to word s ≡ true → s.0 ≡ word
    same s none answers =
        let is : (bytes_eq s.0 word || false) ≡ true = sym (ap (λ (aliases : List Text). bytes_eq s.0 word || list_any (λ alias. bytes_eq alias word) aliases) none) ∙ answers in
        (bytes_eq-Decides s.0 word).0 (alone (bytes_eq s.0 word) is)

    go : (o : Option (Text × List Text)) → find (answers_to word) names ≡ o → option_map (λ s. s.0) o ≡ Some name → word ≡ name
    go None found e = cc
    go (Some s) found e =
        let here = found_in (λ (x : Text × List Text). x.1 ≡ []) (answers_to word) names s plain_names found in
        sym (same s here.0 here.1) ∙ same_Some _ _ e

-- behind `--` every word is refused, and so is none
abbrev behind_dashes : Walk
behind_dashes = record (walk_from nothing_held) { is_trailing = true }

dashes_refused : (rest : List Text) → walk_fault top names behind_dashes rest ≡ [] → is_some (entered (built testgen_app) (fold (walked top.rules names) behind_dashes rest).stopped) ≡ true → ⊥
unfolding walk_fault
dashes_refused [] e has = true≢false (sym has)
dashes_refused (word ∷ rest) e has = no_fault _ _ e

-- the first word names the subcommand, which takes the others
stops : (words : List Text) → fault_of testgen_app (codes "testgen" ∷ words) ≡ []
    → (name : Text) × (rest : List Text) × (words ≡ name ∷ rest) × (stop words ≡ Some (name, rest)) × (bytes_eq name (codes "help") ≡ false)
unfolding walk_fault
stops [] e = absurd (true≢false (sym (parts [] e).2))
stops (word ∷ rest) e =
    let all = parts (word ∷ rest) e in
    let turn = no_faults (turn_fault top names (walk_from nothing_held) word) (walk_fault top names (walked top.rules names (walk_from nothing_held) word) rest) all.0 in
    by_first (first_word word turn.0) turn.1 all.2
  where
    by_first : IsFirst word → walk_fault top names (walked top.rules names (walk_from nothing_held) word) rest ≡ [] → is_some (entered (built testgen_app) (stop (word ∷ rest))) ≡ true
        → (name : Text) × (left : List Text) × (Path (List Text) (word ∷ rest) (name ∷ left)) × (stop (word ∷ rest) ≡ Some (name, left)) × (bytes_eq name (codes "help") ≡ false)
    by_first (inl named) later has =
        let here = first_walk word ∙ ap (λ (o : Option Text). after_first o word) named.1 in
        let stopped : stop (word ∷ rest) ≡ Some (named.0, rest) = ap (λ (w : Walk). (fold (walked top.rules names) w rest).stopped) here
        ∙ ap (λ (w : Walk). w.stopped) (sym (walk_stopped top.rules names (walk_from nothing_held) named.0 [] rest)) in
        (named.0, rest, ap (λ (w : Text). w ∷ rest) (only_name word named.0 named.1), stopped, named.2)
    by_first (inr dashes) later has =
        let here : walked top.rules names (walk_from nothing_held) word ≡ behind_dashes = first_walk word ∙ ap (λ (o : Option Text). after_first o word) dashes.0
        ∙ ap (λ (b : Bool). let step = cond b (nothing_held, trailing 1) (long_or_other top.rules idle word (long_of word) nothing_held) in after_step top.rules word (walk_from nothing_held) step.0 step.1) dashes.1 in
        absurd (dashes_refused rest (subst (λ (w : Walk). walk_fault top names w rest ≡ []) here later)
        (subst (λ (w : Walk). is_some (entered (built testgen_app) (fold (walked top.rules names) w rest).stopped) ≡ true) here has))

-- ---- what accepted words ask for

-- what the subcommand is taken for, by the name that was given
abbrev IsTaken : Shape → Type 0
IsTaken s = (name : Text) → answers_to name (label_of s) ≡ true → bytes_eq name (codes "help") ≡ false → Asks s × (s.name ≡ name)

taken : (s : Shape) → s.aliases ≡ [] → Asks s → IsTaken s
taken s none asks name answers not_help =
    let is : (bytes_eq s.name name || false) ≡ true = sym (ap (λ (aliases : List Text). bytes_eq s.name name || list_any (λ alias. bytes_eq alias name) aliases) none) ∙ answers in
    (asks, (bytes_eq-Decides s.name name).0 (alone (bytes_eq s.name name) is))

help_taken : (s : Shape) → s.aliases ≡ [] → s.name ≡ codes "help" → IsTaken s
help_taken s none named name answers not_help =
    let is : (bytes_eq s.name name || false) ≡ true = sym (ap (λ (aliases : List Text). bytes_eq s.name name || list_any (λ alias. bytes_eq alias name) aliases) none) ∙ answers in
    let same : name ≡ codes "help" = sym ((bytes_eq-Decides s.name name).0 (alone (bytes_eq s.name name) is)) ∙ named in
    absurd (true≢false (sym ((bytes_eq-Decides name (codes "help")).1 same) ∙ not_help))

all_taken : Each IsTaken subs
all_taken = (
  taken _ refl gen_asks,
  (taken _ refl replay_asks, (taken _ refl exec_asks, (taken _ refl show_asks, (taken _ refl demo_asks, (help_taken _ refl refl, tt))))),
)

pub accepted : (words : List Text) → fault_of testgen_app (codes "testgen" ∷ words) ≡ []
    → (command : Command) × (asked_in (subcommand_of testgen_app (codes "testgen" ∷ words)) ≡ Some command) × IsInRange command × ((rest : List Text) × (words ≡ name_of command ∷ rest))
accepted words e =
    let stopped = stops words e in
    let all = parts words e in
    by_shape stopped.0 stopped.1 stopped.2 stopped.3 stopped.4 (find (λ s. answers_to stopped.0 (label_of s)) subs) refl
    (subst (λ o. entered_fault (built testgen_app) o ≡ []) stopped.3 all.1) (subst (λ o. is_some (entered (built testgen_app) o) ≡ true) stopped.3 all.2)
  where
    by_shape : (name : Text) (rest : List Text) → words ≡ name ∷ rest → stop words ≡ Some (name, rest) → bytes_eq name (codes "help") ≡ false
        → (o : Option Shape) → find (λ s. answers_to name (label_of s)) subs ≡ o
        → option_map_or (λ s. level_fault s [] nothing_held rest false []) o [] ≡ [] → is_some (option_map (λ s. rows_at s rest) o) ≡ true
        → (command : Command) × (asked_in (subcommand_of testgen_app (codes "testgen" ∷ words)) ≡ Some command) × IsInRange command × ((rest : List Text) × (words ≡ name_of command ∷ rest))
    by_shape name rest are stops not_help None found fault has = absurd (true≢false (sym has))
    by_shape name rest are stops not_help (Some s) found fault has =
        let here = found_in IsTaken (λ s. answers_to name (label_of s)) subs s all_taken found in
        let taken = here.0 name here.1 not_help in
        let answers = taken.0 rest fault in
        let entered_is : subcommand_of testgen_app (codes "testgen" ∷ words) ≡ Some (rows_at s rest) = ap (entered (built testgen_app)) stops ∙ ap (option_map (λ (s : Shape). rows_at s rest)) found in
        (answers.0, ap asked_in entered_is ∙ answers.1, answers.2, (rest, are ∙ ap (λ (n : Text). n ∷ rest) (sym taken.1 ∙ answers.3)))
