-- What a walk over words that are accepted leaves: each argument that was given has one value, which its parser takes.
use Rattle.std.proofs.Common.{◌≡◌, ◌==◌, ◌∙◌, arith, ◌++◌, ◌&&◌, ◌||◌, ◌⊎◌, ℕ, Bool, cond, not, true, false, zero, suc, List, [], ◌∷◌, length, drop, Option, Some, None, is_some, refl, sym, ap, subst, inl, inr, true≢false, append-nil}
use Rattle.std.specs.Prelude.{encode_utf8, slice_get, unwrap_or, find, fold}
use Rattle.std.specs.List.{AllByRecursion as Each}
use Rattle.std.specs.Option.{option_map_or}
use Rattle.std.specs.Str.{bytes_eq, chars}
use Rattle.std.proofs.lemmas.Bool.{ne_eqb}
use Rattle.std.proofs.lemmas.Slice.Eq.{bytes_eq-Decides}
use Rattle.std.proofs.lemmas.List.Folds.{list_any-append}
use Rattle.clap.specs.Facts.{parser_of_value, unwrap_or_range}
use Rattle.clap.specs.Lexer.{long_of, short_of}
use Rattle.clap.specs.Kinds.{Kinds, or_else, range_kinds, value_kinds}
use Rattle.clap.specs.ValueTests.{accepts}
use Rattle.clap.specs.Walk.{Held, Names, Outcome, Row, Rule, Step, Text, Waiting, Walk, action_of, after_flag, after_step, arg_by_id, arg_by_index, arg_by_long, arg_by_short, at_row, attached_value, bundle, bundle_met, bundle_step, default_rows, done, finished, flag_met, has_long, has_row, has_short, idle, is_pending, long_met, long_or_other, option_met, option, option_word, more_values, plain_word, plain, positional, positional_held, reacted, reading_by, refused, settled, settled_rows, short_met, short_or_plain, subcommand_met, subcommand_or_other, takes_several, takes_values, to_positional, next, subcommand, trailing, used, used_as, used_by_id, value, values_or_missing, waits, walk, walk_from, rows_after, nothing_held, walked, walked_from, with_default, with_values, without, word_met}
use Rattle.clap.specs.Faults.{action_fault, bundle_step_fault, check_fault, defaults_fault, level_fault, flag_word_fault, flags_fault, long_fault, option_fault, other_fault, positional_fault, react_fault, repeat_fault, set_fault, settle_fault, short_fault, step_fault, stray_fault, turn_fault, use_fault, values_fault, walk_fault, word_fault}
use Rattle.clap.specs.Simple.{Shape}
use Rattle.clap.specs.declared.builder.action.ArgAction.{ArgAction}
use Rattle.clap.specs.declared.builder.action.ArgAction.TheVariants.{Set}
use Rattle.clap.specs.declared.builder.range.ValueRange.{ValueRange}
use Rattle.clap.specs.declared.error.kind.ErrorKind.{ErrorKind}
use Rattle.clap.specs.declared.error.kind.ErrorKind.TheVariants as kind
use Rattle.clap.specs.declared.parser.matches.ValueSource.{ValueSource}
use Rattle.clap.specs.declared.parser.matches.ValueSource.TheVariants.{CommandLine, DefaultValue}

-- ---- faults and lists

pub no_faults : (a b : Kinds) → or_else a b ≡ [] → (a ≡ []) × (b ≡ [])
no_faults [] b e = (refl, e)
no_faults (k ∷ ks) b e = cc

pub no_fault : (k : ErrorKind) (ks : Kinds) → k ∷ ks ≡ [] → ⊥
no_fault k ks e = cc

-- no fault comes where there is one
pub nothing_fails : (b : Bool) (k : ErrorKind) → cond b [] (k ∷ []) ≡ [] → b ≡ true
nothing_fails true k e = refl
nothing_fails false k e = cc

pub nothing_stands : (b : Bool) (k : ErrorKind) (ks : Kinds) → cond b (k ∷ ks) [] ≡ [] → b ≡ false
nothing_stands true k ks e = cc
nothing_stands false k ks e = refl

pub found_in : {X : Type 0} (P : X → Type 0) (test : X → Bool) (xs : List X) (x : X) → Each P xs → find test xs ≡ Some x → P x × (test x ≡ true)
found_in P test [] x each e = cc
found_in P test (y ∷ ys) x each e = go (test y) refl e (λ f. found_in P test ys x each.1 f)
  where
    go : (b : Bool) → test y ≡ b → cond b (Some y) (find test ys) ≡ Some x → (find test ys ≡ Some x → P x × (test x ≡ true)) → P x × (test x ≡ true)
    go true t e more =
        let same : y ≡ x = cc in
        (subst P same each.0, subst (λ z. test z ≡ true) same t)
    go false t e more = more e

pub each_push : {X : Type 0} (P : X → Type 0) (xs : List X) (x : X) → Each P xs → P x → Each P (xs ++ x ∷ [])
each_push P [] x each p = (p, tt)
each_push P (y ∷ ys) x each p = (each.0, each_push P ys x each.1 p)

-- a row that isn't there is put at the end
pub at_no_row : (id : Text) (change : Row → List Row) (missing rows : List Row) → has_row id rows ≡ false → at_row id change missing rows ≡ rows ++ missing
at_no_row id change missing [] e = refl
at_no_row id change missing (r ∷ rs) e = go (bytes_eq r.id id) e (λ f. at_no_row id change missing rs f)
  where
    go : (b : Bool) → (b || has_row id rs) ≡ false → (has_row id rs ≡ false → at_row id change missing rs ≡ rs ++ missing)
        → cond b (change r ++ rs) (r ∷ at_row id change missing rs) ≡ r ∷ (rs ++ missing)
    go true e more = absurd (true≢false e)
    go false e more = ap (λ l. r ∷ l) (more e)

-- ---- rules and rows

abbrev one_value : ValueRange
one_value = record { start_inclusive = 1; end_inclusive = 1 }

-- an argument that takes one value, once, and whose default its parser takes
pub record TakesOne (c : List Rule) (a : Rule) : Type 0 where
  pub action : a.action ≡ Some Set
  pub range : a.range ≡ Some one_value
  pub own : arg_by_id c a.id ≡ Some a
  pub defaults : (a.defaults ≡ []) ⊎ ((v : Text) × (a.defaults ≡ v ∷ []) × (accepts a.ignore_case (parser_of_value a.parser) v ≡ true))

-- an argument that asks for something else than a command, such as help
pub record Asks (a : Rule) : Type 0 where
  pub kind : ErrorKind
  pub others : Kinds
  pub fails : (values : List Text) (rows : List Row) → action_fault (action_of a) false a values rows ≡ kind ∷ others
  pub defaults : a.defaults ≡ []

abbrev pub IsFine : List Rule → Rule → Type 0
IsFine c a = TakesOne c a ⊎ Asks a

-- a row of an argument, with one value that its parser takes
pub record IsGood (c : List Rule) (r : Row) : Type 0 where
  pub arg : Rule
  pub value : Text
  pub is : arg_by_id c r.id ≡ Some arg
  pub values : r.values ≡ value ∷ []
  pub accepted : accepts arg.ignore_case (parser_of_value arg.parser) value ≡ true
  pub reading : r.reading ≡ reading_by arg

abbrev pub AreGood : List Rule → List Row → Type 0
AreGood c rows = Each (IsGood c) rows

-- the fault of a turn, by the rules that it goes by and whether the walk stopped before
abbrev fault_by : Shape → Names → Walk → Text → List Rule → Option (Text × List Text) → Kinds
fault_by s names w word rules stopped =
    let met = word_met rules names w.is_trailing w.waiting w.position word w.held in
    cond (is_some stopped) [] (or_else (word_fault s names w.is_trailing w.waiting word w.held) (step_fault s w.position met.0 met.1))

two_values : (n : ℕ) → range_kinds 1 1 (suc (suc n)) ≡ kind.WrongNumberOfValues ∷ []
two_values n =
    let some : (suc (suc n) == 0) ≡ false = ne_eqb _ _ (λ e. omega (arith, e)) in
    let more : (1 == suc (suc n)) ≡ false = ne_eqb _ _ (λ e. omega (arith, e)) in
    rw (some, more) refl

-- what a walk keeps: each row is good
module _ (c : List Rule) (fine : Each (IsFine c) c) where
  -- a new row with one value
  row_good : (a : Rule) (one : TakesOne c a) (v : Text) (s : ValueSource) (rows : List Row) → AreGood c rows → has_row a.id rows ≡ false
      → accepts a.ignore_case (parser_of_value a.parser) v ≡ true → AreGood c (with_values a.id (reading_by a) s (v ∷ []) rows)
  row_good a one v s rows good new accepted =
      subst (AreGood c) (sym (at_no_row a.id (more_values s (v ∷ [])) _ rows new))
      (each_push (IsGood c) rows _ good (record { arg = a; value = v; is = one.own; values = refl; accepted = accepted; reading = refl }))

  set_good : (a : Rule) (one : TakesOne c a) (values : List Text) (rows : List Row) → AreGood c rows
      → or_else (range_kinds 1 1 (length values)) (set_fault false a (values_or_missing a values) rows) ≡ []
      → AreGood c (used_as Set a.id (reading_by a) (values_or_missing a values) rows)
  set_good a one [] rows good e = absurd (no_fault kind.InvalidValue [] e)
  set_good a one (v ∷ w ∷ vs) rows good e =
      absurd (no_fault kind.WrongNumberOfValues [] (sym (two_values (length vs)) ∙ (no_faults (range_kinds 1 1 (suc (suc (length vs)))) (set_fault false a (v ∷ w ∷ vs) rows) e).0))
  set_good a one (v ∷ []) rows good e =
      let parts = no_faults (repeat_fault false a.id rows) (values_fault a (v ∷ [])) e in
      let new : has_row a.id rows ≡ false = not_again (has_row a.id rows) parts.0 in
      let accepted : accepts a.ignore_case (parser_of_value a.parser) v ≡ true = nothing_fails _ _ (no_faults (value_kinds a.ignore_case (parser_of_value a.parser) v) [] parts.1).0 in
      let same : without a.id rows ≡ rows = at_no_row a.id (λ _. []) [] rows new ∙ append-nil rows in
      subst (λ (rs : List Row). AreGood c (with_values a.id (reading_by a) CommandLine (v ∷ []) rs)) (sym same) (row_good a one v CommandLine rows good new accepted)
    where
      not_again : (b : Bool) → cond (b && not false) (kind.ArgumentConflict ∷ []) [] ≡ [] → b ≡ false
      not_again true e = cc
      not_again false e = refl

  used_good : (a : Rule) → IsFine c a → (values : List Text) (rows : List Row) → AreGood c rows → use_fault false a values rows ≡ [] → AreGood c (used a values rows)
  used_good a (inl one) values rows good e =
      let action : action_of a ≡ Set = ap (λ o. unwrap_or o Set) one.action in
      let range : unwrap_or_range a.range ≡ one_value = ap unwrap_or_range one.range in
      let same : use_fault false a values rows ≡ or_else (range_kinds 1 1 (length values)) (set_fault false a (values_or_missing a values) rows) =
      λ i. or_else (range_kinds (range i).start_inclusive (range i).end_inclusive (length values)) (action_fault (action i) false a (values_or_missing a values) rows) in
      subst (λ (x : ArgAction). AreGood c (used_as x a.id (reading_by a) (values_or_missing a values) rows)) (sym action) (set_good a one values rows good (sym same ∙ e))
  used_good a (inr asks) values rows good e =
      let parts = no_faults (range_kinds (unwrap_or_range a.range).start_inclusive (unwrap_or_range a.range).end_inclusive (length values)) (action_fault (action_of a) false a (values_or_missing a values) rows) e in
      let bad : asks.kind ∷ asks.others ≡ [] = sym (asks.fails (values_or_missing a values) rows) ∙ parts.1 in
      cc

  pub settled_good : (h : Held) → AreGood c h.rows → settle_fault c false h ≡ [] → AreGood c (settled c h).rows
  settled_good h good e = by_pending h.pending e
    where
      by_arg : (o : Option Rule) (id : Text) (values : List Text) → arg_by_id c id ≡ o → option_map_or (λ a. use_fault false a values h.rows) o [] ≡ [] → AreGood c (used_by_id o values h.rows)
      by_arg None id values is e = good
      by_arg (Some a) id values is e = used_good a (found_in (IsFine c) (λ x. bytes_eq x.id id) c a fine is).0 values h.rows good e

      by_pending : (p : Option (Text × List Text)) → option_map_or (λ q. option_map_or (λ a. use_fault false a q.1 h.rows) (arg_by_id c q.0) []) p [] ≡ [] → AreGood c (settled_rows c p h.rows)
      by_pending None e = good
      by_pending (Some q) e = by_arg (arg_by_id c q.0) q.0 q.1 refl e

  reacted_good : (a : Rule) → IsFine c a → (values : List Text) (h : Held) → AreGood c h.rows → react_fault c false a values h ≡ [] → AreGood c (reacted c a values h).rows
  reacted_good a is values h good e =
      let parts = no_faults (settle_fault c false h) (use_fault false a values (settled c h).rows) e in
      used_good a is values (settled c h).rows (settled_good h good parts.0) parts.1

  option_good : (a : Rule) → IsFine c a → (v : Option Text) (h : Held) → AreGood c h.rows → option_fault c false a v h ≡ [] → AreGood c (option_met c a v h).0.rows
  option_good a is (Some v) h good e = reacted_good a is (v ∷ []) h good e
  option_good a is None h good e = settled_good h good e

  flag_good : (a : Rule) → IsFine c a → (v : Option Text) (h : Held) → AreGood c h.rows → cond (is_some v) (kind.TooManyValues ∷ []) (react_fault c false a [] h) ≡ []
      → AreGood c (flag_met c a v h).0.rows
  flag_good a is (Some v) h good e = good
  flag_good a is None h good e = reacted_good a is [] h good e

  long_good : (name : Text) (v : Option Text) (h : Held) → AreGood c h.rows → long_fault c false (arg_by_long c name) v h ≡ [] → AreGood c (long_met c (arg_by_long c name) v h).0.rows
  long_good name v h good e = by_arg (arg_by_long c name) refl e
    where
      by_kind : (a : Rule) → IsFine c a → (b : Bool) → cond b (option_fault c false a v h) (cond (is_some v) (kind.TooManyValues ∷ []) (react_fault c false a [] h)) ≡ []
          → AreGood c (cond b (option_met c a v h) (flag_met c a v h)).0.rows
      by_kind a is true e = option_good a is v h good e
      by_kind a is false e = flag_good a is v h good e

      by_arg : (o : Option Rule) → arg_by_long c name ≡ o → long_fault c false o v h ≡ [] → AreGood c (long_met c o v h).0.rows
      by_arg None is e = good
      by_arg (Some a) is e = by_kind a (found_in (IsFine c) (λ x. not (is_some x.index) && has_long x name) c a fine is).0 (takes_values a) e

  short_good : (x : ℕ) (rest : Text) (h : Held) (then : Held → Held × Outcome) (then_fault : Held → Kinds) → AreGood c h.rows
      → ((k : Held) → AreGood c k.rows → then_fault k ≡ [] → AreGood c (then k).0.rows) → short_fault c false (arg_by_short c x) rest h then_fault ≡ []
      → AreGood c (short_met c (arg_by_short c x) rest h then).0.rows
  short_good x rest h then then_fault good more e = by_arg (arg_by_short c x) refl e
    where
      by_kind : (a : Rule) → IsFine c a → (b : Bool)
          → cond b (option_fault c false a (attached_value rest) h) (or_else (react_fault c false a [] h) (then_fault (reacted c a [] h))) ≡ []
          → AreGood c (cond b (option_met c a (attached_value rest) h) (then (reacted c a [] h))).0.rows
      by_kind a is true e = option_good a is (attached_value rest) h good e
      by_kind a is false e =
          let parts = no_faults (react_fault c false a [] h) (then_fault (reacted c a [] h)) e in
          more (reacted c a [] h) (reacted_good a is [] h good parts.0) parts.1

      by_arg : (o : Option Rule) → arg_by_short c x ≡ o → short_fault c false o rest h then_fault ≡ [] → AreGood c (short_met c o rest h then).0.rows
      by_arg None is e = good
      by_arg (Some a) is e = by_kind a (found_in (IsFine c) (λ y. not (is_some y.index) && has_short y x) c a fine is).0 (takes_values a) e

  bundle_good : (k : ℕ) (flags : Text) (skip : ℕ) (so_far : Outcome) (h : Held) → AreGood c h.rows → flags_fault c false k flags skip h ≡ []
      → AreGood c (bundle_met c k flags skip so_far h).0.rows
  unfolding bundle_met flags_fault
  bundle_good zero flags skip so_far h good e = good
  bundle_good (suc k) flags skip so_far h good e =
      step (slice_get (chars flags) 0) skip e (λ rest less o i g f. bundle_good k rest less o i g f)
    where
      step : (o : Option ℕ) (skip : ℕ) → bundle_step_fault c false o flags skip h (flags_fault c false k) ≡ []
          → ((rest : Text) (less : ℕ) (o : Outcome) (i : Held) → AreGood c i.rows → flags_fault c false k rest less i ≡ [] → AreGood c (bundle_met c k rest less o i).0.rows)
          → AreGood c (bundle_step c o flags skip so_far h (bundle_met c k)).0.rows
      step None skip e more = good
      step (Some x) zero e more =
          let rest = drop (length (encode_utf8 x)) flags in
          short_good x rest h (bundle_met c k rest 0 done) (flags_fault c false k rest 0) good (λ i g f. more rest 0 done i g f) e
      step (Some x) (suc skip) e more = more (drop (length (encode_utf8 x)) flags) skip so_far h good e

  option_word_good : (o : Option Rule) (id word : Text) (h : Held) → AreGood c h.rows → AreGood c (option_word o id word h).0.rows
  option_word_good None id word h good = good
  option_word_good (Some a) id word h good = good

  plain_good : (waiting : Waiting) (word : Text) (h : Held) → AreGood c h.rows → AreGood c (plain_word c waiting word h).0.rows
  plain_good idle word h good = good
  plain_good (option id) word h good = option_word_good (arg_by_id c id) id word h good
  plain_good positional word h good = good

  after_good : (waiting : Waiting) (word : Text) (h : Held) (o : Outcome) → AreGood c h.rows → AreGood c (after_flag c waiting word h o).0.rows
  after_good waiting word h done good = good
  after_good waiting word h (waits id) good = good
  after_good waiting word h plain good = plain_good waiting word h good
  after_good waiting word h refused good = plain_good waiting word h good

  flag_word_good : (waiting : Waiting) (word : Text) (h : Held) → AreGood c h.rows → flag_word_fault c false (long_of word) word h ≡ []
      → AreGood c (long_or_other c waiting word (long_of word) h).0.rows
  flag_word_good waiting word h good e = by_long (long_of word) e
    where
      by_short : (o : Option Text) → option_map_or (λ flags. flags_fault c false (length flags) flags h.skip (record h { skip = 0 })) o [] ≡ [] → AreGood c (short_or_plain c waiting word o h).0.rows
      by_short None e = plain_good waiting word h good
      by_short (Some flags) e =
          after_good waiting word (bundle c flags h).0 (bundle c flags h).1 (bundle_good (length flags) flags h.skip plain (record h { skip = 0 }) good e)

      by_long : (o : Option (Text × Option Text)) → flag_word_fault c false o word h ≡ [] → AreGood c (long_or_other c waiting word o h).0.rows
      by_long None e = by_short (short_of word) e
      by_long (Some p) e =
          after_good waiting word (long_met c (arg_by_long c p.0) p.1 h).0 (long_met c (arg_by_long c p.0) p.1 h).1 (long_good p.0 p.1 h good e)

  positional_good : (a : Rule) (word : Text) (h : Held) → AreGood c h.rows → positional_fault c false a h ≡ [] → AreGood c (positional_held c a word h).rows
  positional_good a word h good e = go (is_pending a h.pending && takes_several a) e
    where
      go : (b : Bool) → cond b [] (settle_fault c false h) ≡ [] → AreGood c (cond b h (settled c h)).rows
      go true e = good
      go false e = settled_good h good e

  step_good : (s : Shape) (w : Walk) (word : Text) (h : Held) (step : Step) → s.rules ≡ c → s.args_override_self ≡ false → AreGood c h.rows → step_fault s w.position h step ≡ []
      → AreGood c (after_step c word w h step).held.rows
  step_good s w word h (next waiting) is single good e = good
  step_good s w word h (trailing position) is single good e = good
  step_good s w word h (subcommand name) is single good e = good
  step_good s w word h value is single good e =
      by_arg (arg_by_index c w.position) (sym (λ i. option_map_or (λ a. positional_fault (is i) (single i) a h) (arg_by_index (is i) w.position) (stray_fault s)) ∙ e)
    where
      by_arg : (o : Option Rule) → option_map_or (λ a. positional_fault c false a h) o (stray_fault s) ≡ [] → AreGood c (to_positional c o word w h).held.rows
      by_arg None e = good
      by_arg (Some a) e = positional_good a word h good e

  -- a word that is no value of a positional
  other_good : (s : Shape) (met : Option Text) (waiting : Waiting) (position : ℕ) (word : Text) (h : Held) → s.rules ≡ c → s.args_override_self ≡ false → AreGood c h.rows
      → other_fault s met word h ≡ [] → AreGood c (subcommand_or_other c met waiting position word h).0.rows
  other_good s (Some name) waiting position word h is single good e = good
  other_good s None waiting position word h is single good e =
      go (bytes_eq word (45 ∷ 45 ∷ [])) (sym (λ i. cond (bytes_eq word (45 ∷ 45 ∷ [])) [] (flag_word_fault (is i) (single i) (long_of word) word h)) ∙ e)
    where
      go : (b : Bool) → cond b [] (flag_word_fault c false (long_of word) word h) ≡ [] → AreGood c (cond b (h, trailing position) (long_or_other c waiting word (long_of word) h)).0.rows
      go true e = good
      go false e = flag_word_good waiting word h good e

  word_good : (s : Shape) (names : Names) (is_trailing : Bool) (waiting : Waiting) (position : ℕ) (word : Text) (h : Held) → s.rules ≡ c → s.args_override_self ≡ false → AreGood c h.rows
      → word_fault s names is_trailing waiting word h ≡ [] → AreGood c (word_met c names is_trailing waiting position word h).0.rows
  word_good s names true waiting position word h is single good e = good
  word_good s names false waiting position word h is single good e = other_good s (subcommand_met names waiting word) waiting position word h is single good e

  turn_good : (s : Shape) (names : Names) (w : Walk) (word : Text) → s.rules ≡ c → s.args_override_self ≡ false → AreGood c w.held.rows → turn_fault s names w word ≡ []
      → AreGood c (walked c names w word).held.rows
  unfolding walked
  turn_good s names w word is single good e = go w.stopped (sym (λ i. fault_by s names w word (is i) w.stopped) ∙ e)
    where
      go : (stopped : Option (Text × List Text)) → fault_by s names w word c stopped ≡ [] → AreGood c (walked_from c names stopped w word).held.rows
      go (Some p) e = good
      go None e =
          let met = word_met c names w.is_trailing w.waiting w.position word w.held in
          let parts = no_faults (word_fault s names w.is_trailing w.waiting word w.held) (step_fault s w.position met.0 met.1) e in
          step_good s w word met.0 met.1 is single (word_good s names w.is_trailing w.waiting w.position word w.held is single good parts.0) parts.1

  pub walk_good : (s : Shape) (names : Names) (w : Walk) (words : List Text) → s.rules ≡ c → s.args_override_self ≡ false → AreGood c w.held.rows → walk_fault s names w words ≡ []
      → AreGood c (fold (walked c names) w words).held.rows
  unfolding walk_fault
  walk_good s names w [] is single good e = good
  walk_good s names w (word ∷ rest) is single good e =
      let parts = no_faults (turn_fault s names w word) (walk_fault s names (walked s.rules names w word) rest) e in
      let later : walk_fault s names (walked c names w word) rest ≡ [] = subst (λ (rules : List Rule). walk_fault s names (walked rules names w word) rest ≡ []) is parts.1 in
      walk_good s names (walked c names w word) rest is single (turn_good s names w word is single good parts.0) later

  -- ---- defaults

  default_good : (a : Rule) → IsFine c a → (rows : List Row) → AreGood c rows → AreGood c (with_default rows a)
  default_good a is rows good = go (has_row a.id rows) refl
    where
      none : (values : List Text) → values ≡ [] → AreGood c (default_rows a.id (reading_by a) values rows)
      none [] e = good
      none (v ∷ vs) e = cc

      given : TakesOne c a → has_row a.id rows ≡ false → (a.defaults ≡ []) ⊎ ((v : Text) × (a.defaults ≡ v ∷ []) × (accepts a.ignore_case (parser_of_value a.parser) v ≡ true))
          → AreGood c (default_rows a.id (reading_by a) a.defaults rows)
      given one new (inl e) = none a.defaults e
      given one new (inr d) =
          subst (λ (values : List Text). AreGood c (default_rows a.id (reading_by a) values rows)) (sym d.1) (row_good a one d.0 DefaultValue rows good new d.2)

      by_kind : IsFine c a → has_row a.id rows ≡ false → AreGood c (default_rows a.id (reading_by a) a.defaults rows)
      by_kind (inl one) new = given one new one.defaults
      by_kind (inr asks) new = none a.defaults asks.defaults

      go : (b : Bool) → has_row a.id rows ≡ b → AreGood c (cond b rows (default_rows a.id (reading_by a) a.defaults rows))
      go true e = good
      go false e = by_kind is e

  pub defaults_good : (rules : List Rule) → Each (IsFine c) rules → (rows : List Row) → AreGood c rows → AreGood c (fold with_default rows rules)
  defaults_good [] each rows good = good
  defaults_good (a ∷ rules) each rows good = defaults_good rules each.1 (with_default rows a) (default_good a each.0 rows good)

-- ---- a whole level

pub level_good : (s : Shape) → Each (IsFine s.rules) s.rules → (words : List Text) → s.args_override_self ≡ false → level_fault s [] nothing_held words false [] ≡ []
    → AreGood s.rules (rows_after s.rules [] words) × (check_fault s (rows_after s.rules [] words) false ≡ [])
level_good s fine words single e =
    let end = (walk s.rules [] nothing_held words).held in
    let defaults = defaults_fault (settled s.rules end).rows s.rules in
    let checks = check_fault s (finished s.rules end) false in
    let first = no_faults (walk_fault s [] (walk_from nothing_held) words) (or_else (settle_fault s.rules s.args_override_self end) (or_else defaults checks)) e in
    let second = no_faults (settle_fault s.rules s.args_override_self end) (or_else defaults checks) first.1 in
    let third = no_faults defaults checks second.1 in
    let held = walk_good s.rules fine s [] (walk_from nothing_held) words refl single tt first.0 in
    let settles : settle_fault s.rules false end ≡ [] = subst (λ (again : Bool). settle_fault s.rules again end ≡ []) single second.0 in
    (defaults_good s.rules fine s.rules fine (settled s.rules end).rows (settled_good s.rules fine end held settles), third.1)

-- an argument with a default has a row at the end
same_id : (id : Text) → bytes_eq id id ≡ true
same_id id = (bytes_eq-Decides id id).1 refl

pub row_there : (a : Rule) (v : Text) (rows : List Row) → a.defaults ≡ v ∷ [] → has_row a.id (with_default rows a) ≡ true
row_there a v rows is = go (has_row a.id rows) refl
  where
    go : (b : Bool) → has_row a.id rows ≡ b → has_row a.id (cond b rows (default_rows a.id (reading_by a) a.defaults rows)) ≡ true
    go true e = e
    go false e =
        let put : default_rows a.id (reading_by a) a.defaults rows ≡ rows ++ record { id = a.id; values = v ∷ []; count = None; source = Some DefaultValue; reading = reading_by a } ∷ [] =
        ap (λ (values : List Text). default_rows a.id (reading_by a) values rows) is ∙ at_no_row a.id (more_values DefaultValue (v ∷ [])) _ rows e in
        rw (put, list_any-append, e, same_id a.id) refl

pub row_stays : (id : Text) (a : Rule) (rows : List Row) → has_row id rows ≡ true → has_row id (with_default rows a) ≡ true
row_stays id a rows there = go (has_row a.id rows) refl
  where
    by_values : (values : List Text) → has_row a.id rows ≡ false → has_row id (default_rows a.id (reading_by a) values rows) ≡ true
    by_values [] e = there
    by_values (v ∷ vs) e =
        let row : List Row = record { id = a.id; values = v ∷ vs; count = None; source = Some DefaultValue; reading = reading_by a } ∷ [] in
        ap (has_row id) (at_no_row a.id (more_values DefaultValue (v ∷ vs)) row rows e) ∙ list_any-append (λ r. bytes_eq r.id id) rows row ∙ ap (λ b. b || has_row id row) there

    go : (b : Bool) → has_row a.id rows ≡ b → has_row id (cond b rows (default_rows a.id (reading_by a) a.defaults rows)) ≡ true
    go true e = there
    go false e = by_values a.defaults e
