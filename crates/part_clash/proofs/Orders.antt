-- The order of clashes is transitive.
use Rattle.std.proofs.Common.{◌≡◌, ◌<◌, ◌≤◌, ◌⊎◌, inl, inr, ◌∙◌, arith}
use Rattle.foot_map.specs.declared.clash.Clash.{Clash}
use Rattle.foot_map.specs.Order.{rank}
use Rattle.foot_map.specs.Races.{IsNotAfter}

pub not_after_both : (c d e : Clash) → IsNotAfter c d → IsNotAfter d e → IsNotAfter c e
not_after_both c d e (inl p) (inl q) = inl (omega arith)
not_after_both c d e (inl p) (inr q) = inl (omega arith)
not_after_both c d e (inr p) (inl q) = inl (omega arith)
not_after_both c d e (inr p) (inr q) = inr (p.0 ∙ q.0, on_byte p.1 q.1)
  where
    on_byte : (c.hart < d.hart) ⊎ ((c.hart ≡ d.hart) × (rank c.role ≤ rank d.role))
        → (d.hart < e.hart) ⊎ ((d.hart ≡ e.hart) × (rank d.role ≤ rank e.role))
        → (c.hart < e.hart) ⊎ ((c.hart ≡ e.hart) × (rank c.role ≤ rank e.role))
    on_byte (inl a) (inl b) = inl (omega arith)
    on_byte (inl a) (inr b) = inl (omega arith)
    on_byte (inr a) (inl b) = inl (omega arith)
    on_byte (inr a) (inr b) = inr (a.0 ∙ b.0, omega arith)
