-- "over 65,532 bytes gives only record 0 with 10": so what comes after more than that changes nothing of the text.
-- Assumes nothing.
use mathlib.Core.Path.{◌≡◌, refl, ap, sym, ◌∙◌}
use mathlib.Core.Bool.{Bool, true, false}
use mathlib.Core.List.{List}
use Prim.Native.Nat.{ℕ, ◌<◌, ◌≤◌}
use native.Mathlib.Omega.{arith}
use lib.Dec.{ltb}
use lib.ListN.{length, take}
use lib.Seq.{take_all, length-take-le}
use borrow.Author.Tests.{ltb-true, ltb-false, lt-ltb}
use Rattle.text.specs.Text.{line_of}
use Rattle.effect.specs.declared.Refusal.TheVariants as ruling
use Rattle.bus.specs.Record.{refuse, no_parties}
use Rattle.run.specs.Run.{text_of}

over : (s : List ℕ) → 65532 < length s → text_of s ≡ line_of 0 (refuse ruling.Record no_parties)
unfolding text_of
over s h = simp (lt-ltb _ _ h)

by_length : (n : ℕ) (s : List ℕ) (p : Bool) → ltb (length s) n ≡ p → 65532 < n → text_of (take n s) ≡ text_of s
by_length n s true e h = let k : length s < n = ltb-true _ _ e in ap text_of (take_all n s (omega arith))
by_length n s false e h =
    let k : n ≤ length s = ltb-false _ _ e in
    over (take n s) (omega (arith, length-take-le n s k)) ∙ sym (over s (omega arith))

pub front : (n : ℕ) (s : List ℕ) → 65532 < n → text_of (take n s) ≡ text_of s
front n s h = by_length n s _ refl h
