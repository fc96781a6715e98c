use Rattle.std.proofs.Common.{◌≡◌, ℕ, ◌+◌, ◌%◌, ◌^◌, ◌<◌, Bool, bit_and, List, sym, ap, ◌∙◌, arith}
use Rattle.dom_set.specs.Elements.{is_in}
use Rattle.data_bytes.specs.Sets.{IsSetOf}
use Rattle.data_ways.specs.declared.way.DataEnd.{DataEnd}
use Rattle.data_ways.specs.declared.way.DataEnd.TheVariants as ends
use Rattle.data_goals.specs.Goals.{leads_to}
use Rattle.data_goals.proofs.cuts.leading.Goals as goal

led_there : (there targets : List ℕ) (test : ℕ → Bool) (end : DataEnd) (base mask : ℕ) → ((ea : ℕ) → ea < 2 ^ 32 → is_in there ea ≡ is_in targets ((base + bit_and ea mask) % 2 ^ 32))
    → end ≡ ends.At base mask → IsSetOf test targets → IsSetOf (leads_to end test) there
led_there there targets test end base mask k at m v small = k v small ∙ m ((base + bit_and v mask) % 2 ^ 32) (omega arith) ∙ sym (ap (λ (e : DataEnd). leads_to e test v) at)

pub returns-in_ok-there-in-At : goal.returns-in_ok-there-in-At
returns-in_ok-there-in-At c test targets = led_there c.in_ok-there-in-At.there c.args.targets.now test c.args.way.now.end c.in-At.base c.in-At.mask c.in_ok-there-in-At.ensures c.in-At.is targets
