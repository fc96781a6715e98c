-- The lines of names, choices and dropped biases.
use Rattle.std.specs.Prelude.{ℕ, List, ◌++◌, codes, encode_utf8}
use Rattle.std.specs.List.{flat_map, enumerate_from}
use Rattle.std.specs.Fmt.{decimal}
use Rattle.tpl_ast.specs.declared.template.NameDecl.{NameDecl}
use Rattle.tpl_admit.specs.declared.dropped.Dropped.{Dropped}
use Rattle.tpl_admit.specs.declared.dropped.Why.{Why}
use Rattle.tpl_admit.specs.declared.dropped.Why.TheVariants.{NoneFits, Spent}
use Rattle.tpl_admit.specs.Sizes.{name_of}
use Rattle.trace_text.specs.Numbers.{hex8}

-- letters as they stand in the template
unfoldable pub name_text : List ℕ → List ℕ
name_text letters = flat_map encode_utf8 letters

-- `name NAME V`
unfoldable pub name_line : List NameDecl → ℕ × ℕ → List ℕ
name_line names e = codes "name " ++ name_text (name_of names e.0) ++ codes " " ++ hex8 e.1 ++ codes "\n"

unfoldable pub names_text : List NameDecl → List (ℕ × ℕ) → List ℕ
names_text names values = flat_map (name_line names) values

-- `choice I N`
unfoldable pub choice_line : ℕ → ℕ → List ℕ
choice_line at way = codes "choice " ++ decimal at ++ codes " " ++ decimal way ++ codes "\n"

-- the choices, numbered from 0
unfoldable pub choices_text : List ℕ → List ℕ
choices_text choices = flat_map (λ p. choice_line p.0 p.1) (enumerate_from 0 choices)

abbrev pub why_text : Why → List ℕ
why_text NoneFits = codes "none"
why_text Spent = codes "spent"

-- `dropped K I N none`, or `dropped K I N spent`: hart, step and atom
unfoldable pub dropped_line : Dropped → List ℕ
dropped_line d = codes "dropped " ++ decimal d.hart ++ codes " " ++ decimal d.step ++ codes " " ++ decimal d.atom ++ codes " " ++ why_text d.why ++ codes "\n"

unfoldable pub dropped_text : List Dropped → List ℕ
dropped_text dropped = flat_map dropped_line dropped
