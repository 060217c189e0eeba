-- The first 32 bytes of a block.
use Rattle.std.specs.Prelude.{ℕ, refl}
use Rattle.rows.specs.Coding.{Coding, number, pair, like}
use Rattle.rules.specs.declared.header.Header.{Header}

-- the widths of a header's numbers, in their order
abbrev numbers : Coding (ℕ × (ℕ × (ℕ × (ℕ × (ℕ × (ℕ × (ℕ × (ℕ × (ℕ × ℕ)))))))))
numbers =
    pair (number 1) (pair (number 1) (pair (number 2) (pair (number 1) (pair (number 1) (pair (number 2) (pair (number 4) (pair (number 4) (pair (number 8) (number 8)))))))))

-- a header: its numbers, one behind the other
abbrev pub header_coding : Coding Header
header_coding =
    like
    (λ p. record {
      level = p.0;
      mark = p.1.0;
      count = p.1.1.0;
      children = p.1.1.1.0;
      kind = p.1.1.1.1.0;
      unused = p.1.1.1.1.1.0;
      next_free = p.1.1.1.1.1.1.0;
      gap = p.1.1.1.1.1.1.1.0;
      updates = p.1.1.1.1.1.1.1.1.0;
      tree_writes = p.1.1.1.1.1.1.1.1.1;
    })
    (λ h. (h.level, (h.mark, (h.count, (h.children, (h.kind, (h.unused, (h.next_free, (h.gap, (h.updates, h.tree_writes))))))))))
    (λ h. refl) (λ p. refl) numbers
