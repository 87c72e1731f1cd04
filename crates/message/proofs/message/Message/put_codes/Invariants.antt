use Rattle.std.proofs.Common.{◌≡◌, ◌+◌, ◌*◌, ◌≤◌, [], ◌∷◌, ◌++◌, length, take}
use Rattle.message.specs.Writing.{codes_in, written}
use Rattle.message.proofs.message.Message.put_codes.Given as goal

-- after the tag and the length stand the codes so far
abbrev pub invariant-loop-code : goal.invariant-loop-code
invariant-loop-code l =
    (l.code-index ≤ length l.codes) × (l.self.len ≡ l.fn.self.len + 2 + 3 * l.code-index)
    × (written l.self ≡ (written l.fn.self ++ l.fn.tag ∷ 3 * length l.codes ∷ []) ++ codes_in (take l.code-index l.codes))
