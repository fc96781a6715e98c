-- The report of a certificate.
use Rattle.std.specs.Prelude.{ℕ, List, ◌++◌, length, codes}
use Rattle.std.specs.List.{flat_map, zip, enumerate_from}
use Rattle.std.specs.Fmt.{decimal}
use Rattle.rv_hart.specs.declared.record.Record.{Record}
use Rattle.tpl_admit.specs.declared.certificate.Cert.{Cert}
use Rattle.tpl_ast.specs.declared.template.HartState.{HartState}
use Rattle.tpl_admit.specs.Starts.{trace_of, final_of}
use Rattle.trace_text.specs.Numbers.{hex8, letter, place_name}
use Rattle.trace_text.specs.Rest.{choices_text, dropped_text, names_text}
use Rattle.trace_text.specs.Steps.{steps_text}

-- `WORD K pc PC priv P mstatus V medeleg V satp V`, in two pieces
unfoldable pub state_head : List ℕ → ℕ → HartState → List ℕ
state_head word k s = word ++ codes " " ++ decimal k ++ codes " pc " ++ hex8 s.pc ++ codes " priv " ++ letter s.privilege

unfoldable pub state_csrs : HartState → List ℕ
state_csrs s = codes " mstatus " ++ hex8 s.mstatus ++ codes " medeleg " ++ hex8 s.medeleg ++ codes " satp " ++ hex8 s.satp ++ codes "\n"

unfoldable pub state_line : List ℕ → ℕ → HartState → List ℕ
state_line word k s = state_head word k s ++ state_csrs s

-- `WORD K NAME V`
unfoldable pub place_line : List ℕ → ℕ → ℕ × ℕ → List ℕ
place_line word k place = word ++ codes " " ++ decimal k ++ codes " " ++ place_name place.0 ++ codes " " ++ hex8 place.1 ++ codes "\n"

unfoldable pub places_text : List ℕ → ℕ → List (ℕ × ℕ) → List ℕ
places_text word k places = flat_map (place_line word k) places

-- hart K: where it starts, its steps, and where it ends
unfoldable pub hart_text : ℕ → HartState → List Record → HartState → List ℕ
hart_text k start records end =
    state_line (codes "hart") k start ++ places_text (codes "start") k start.places ++ steps_text k records ++ state_line (codes "end") k end ++ places_text (codes "final") k end.places

-- each hart in ascending order
unfoldable pub harts_text : Cert → List ℕ
harts_text c = flat_map (λ p. hart_text p.0 p.1 (trace_of c p.0) (final_of c p.0)) (enumerate_from 0 c.start)

-- `word A V V`: a word's address, its value at the start and its value at the end
unfoldable pub word_line : (ℕ × ℕ) × ℕ → List ℕ
word_line w = codes "word " ++ hex8 w.0.0 ++ codes " " ++ hex8 w.0.1 ++ codes " " ++ hex8 w.1 ++ codes "\n"

unfoldable pub words_text : List (ℕ × ℕ) → List ℕ → List ℕ
words_text words last = flat_map word_line (zip words last)

-- `harts N`
unfoldable pub harts_line : ℕ → List ℕ
harts_line n = codes "harts " ++ decimal n ++ codes "\n"

unfoldable pub report_text : Cert → List ℕ
report_text c =
    harts_line (length c.start) ++ harts_text c ++ words_text c.words c.last ++ names_text c.template.names c.names ++ choices_text c.choices ++ dropped_text c.dropped
