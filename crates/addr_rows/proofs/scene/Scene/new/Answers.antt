use Rattle.std.proofs.Common.{◌≡◌, ℕ, List, [], ◌∷◌, None, sym, subst, ap, ◌∙◌}
use Rattle.rv_mem.specs.Ram.{in_ram}
use Rattle.sv_walk.specs.Translation.{second_end}
use Rattle.dom_set.specs.Counting.{one}
use Rattle.dom_set.specs.Elements.{is_in}
use Rattle.row_parts.specs.Forms.{is_first, is_second}
use Rattle.row_parts.specs.Rows.{Reaches}
use Rattle.row_parts.specs.declared.alike.Group.{Group}
use Rattle.row_parts.specs.Alike.{is_held, times_held, by_groups, by_word}
use Rattle.addr_rows.proofs.Settings.{at_most_one, setting_same, once_self, any_by}
use Rattle.addr_rows.proofs.scene.Scene.new.Goals as goal

pub grouped-requires : goal.grouped-requires
grouped-requires c = λ w. at_most_one (is_second c.args.forms.now w) _ (c.in_ok-values.ensures w)

pub returns-clause-setting : goal.returns-clause-setting
returns-clause-setting c =
    setting_same c.new.result c.args.ram.now c.args.v c.args.kind c.in_ok-tables.tables.items c.args.forms.now.tables.items (is_first c.args.forms.now) (is_second c.args.forms.now) c.in_ok-firsts.firsts.items c.in_ok-seconds.seconds.items
    (c.new.ensures ∙ c.in_ok-regions.ensures.items ∙ c.as_slice.ensures.regions) (c.in_ok-tables.ensures.items ∙ c.deref.ensures.value) c.in_ok-firsts.ensures
    (λ w. c.in_ok-seconds.ensures.count w ∙ c.in_ok-values.ensures w)

pub returns-clause-kept : goal.returns-clause-kept
returns-clause-kept c =
    let gs : List Group = c.in_ok-seconds.seconds.items in
    let once : (w : ℕ) → times_held gs w ≡ one (is_second c.args.forms.now w) = λ w. c.in_ok-seconds.ensures.count w ∙ c.in_ok-values.ensures w in
    let held : (w : ℕ) → times_held gs w ≡ one (is_held gs w) = λ w. once w ∙ ap one (sym (any_by (λ (h : Group). is_in h.values w) gs (is_second c.args.forms.now w) (once w))) in
    record {
      firsts = once_self (is_first c.args.forms.now) c.in_ok-firsts.firsts.items c.in_ok-firsts.ensures;
      seconds = λ given x.
          subst (λ (rs : List (ℕ × ℕ)). by_groups gs given (λ (w : ℕ). Reaches (second_end (in_ram rs) c.args.v c.args.kind x w) ∷ []) ≡ by_word (is_held gs) given (λ (w : ℕ). Reaches (second_end (in_ram rs) c.args.v c.args.kind x w) ∷ []))
          (sym (c.new.ensures ∙ c.in_ok-regions.ensures.items ∙ c.as_slice.ensures.regions))
          (c.in_ok-seconds.ensures.ends (is_held gs) given x None (λ w. sym (c.in_ok-seconds.ensures.count w) ∙ held w));
    }
