-- A line has at most 34 bytes: 6 for the number, 3 for the refusal, 8 for the word, 3 for the byte, 2 for END, 6 for
-- each count.
-- Assumes nothing.
use mathlib.Core.Path.{◌≡◌}
use mathlib.Core.Bool.{Bool, true, false, cond}
use mathlib.Core.List.{[], ◌∷◌, ◌++◌}
use Prim.Native.Nat.{ℕ, ◌+◌, ◌/◌, ◌≤◌}
use native.Mathlib.Omega.{arith}
use lib.Dec.{ltb, lit≤}
use lib.ListN.{length, length-append}
use Rattle.event.specs.declared.Event.{Event}
use Rattle.event.specs.declared.Event.TheVariants as E
use Rattle.event.specs.Words.{codes, word_text, has_byte}
use Rattle.party.specs.Parts.{one}
use Rattle.bus.specs.declared.Answer.{Answer}
use Rattle.effect.specs.declared.Refusal.TheVariants as R
use Rattle.effect.specs.Calls.{verdict_number}
use Rattle.text.specs.Text.{digit_of, decimal_of, number_text, byte_text, head_text, event_text, counts_text, line_of}
use Rattle.effect.specs.Types.{Verdict}
use Rattle.std.specs.Prelude.{Ok, Err}

at_most_five : (a b c d e : ℕ) (p q r s : Bool)
    → length (cond p (a ∷ [])
    (cond q (b ∷ a ∷ []) (cond r (c ∷ b ∷ a ∷ []) (cond s (d ∷ c ∷ b ∷ a ∷ []) (e ∷ d ∷ c ∷ b ∷ a ∷ []))))) ≤ 5
at_most_five a b c d e true q r s = lit≤ tt
at_most_five a b c d e false true r s = lit≤ tt
at_most_five a b c d e false false true s = lit≤ tt
at_most_five a b c d e false false false true = lit≤ tt
at_most_five a b c d e false false false false = lit≤ tt

decimal_length : (n : ℕ) → length (decimal_of n) ≤ 5
unfolding decimal_of
decimal_length n = at_most_five (digit_of n) (digit_of (n / 10)) (digit_of (n / 100)) (digit_of (n / 1000))
    (digit_of (n / 10000)) (ltb n 10) (ltb n 100) (ltb n 1000) (ltb n 10000)

number_length : (n k : ℕ) → length (number_text n k) ≡ length (decimal_of n) + 1
unfolding number_text
number_length n k = length-append (decimal_of n) (k ∷ [])

verdict_length : (v : Verdict) → length (decimal_of (verdict_number v)) ≤ 2
unfolding decimal_of
verdict_length (Ok x) = lit≤ tt
verdict_length (Err R.NoParty) = lit≤ tt
verdict_length (Err R.BadBuild) = lit≤ tt
verdict_length (Err R.BadValue) = lit≤ tt
verdict_length (Err R.Role) = lit≤ tt
verdict_length (Err R.Attention) = lit≤ tt
verdict_length (Err R.Talker) = lit≤ tt
verdict_length (Err R.Standing) = lit≤ tt
verdict_length (Err R.Full) = lit≤ tt
verdict_length (Err R.Empty) = lit≤ tt
verdict_length (Err R.Record) = lit≤ tt
verdict_length (Err R.NoReg) = lit≤ tt

end_length : (b : Bool) → length (decimal_of (one b)) ≤ 1
unfolding decimal_of
end_length true = lit≤ tt
end_length false = lit≤ tt

word_length : (e : Event) → length (word_text e) ≤ 8
unfolding word_text codes
word_length E.None = lit≤ tt
word_length E.Moved = lit≤ tt
word_length E.Cmd = lit≤ tt
word_length E.Data = lit≤ tt
word_length E.Stat = lit≤ tt
word_length E.Took = lit≤ tt
word_length E.Heard = lit≤ tt
word_length E.Clear = lit≤ tt
word_length E.Trigger = lit≤ tt
word_length E.Ended = lit≤ tt
word_length E.Passed = lit≤ tt
word_length E.Noacc = lit≤ tt
word_length E.Read = lit≤ tt
word_length E.Lines = lit≤ tt

byte_length : (has : Bool) (b : ℕ) → length (byte_text has b) ≤ 3
unfolding byte_text
byte_length true b = lit≤ tt
byte_length false b = lit≤ tt

head_length : (n : ℕ) (v : Verdict) → length (head_text n v) ≤ 9
unfolding head_text
head_length n v = omega (
  arith,
  length-append (number_text n 32) (number_text (verdict_number v) 32),
  number_length n 32,
  number_length (verdict_number v) 32,
  decimal_length n,
  verdict_length v,
)

event_length : (e : Event) (b : ℕ) → length (event_text e b) ≤ 11
unfolding event_text
event_length e b = omega (
  arith,
  length-append (word_text e) (byte_text (has_byte e) b),
  word_length e,
  byte_length
      (has_byte e) b,
)

counts_length : (end : Bool) (d k : ℕ) → length (counts_text end d k) ≤ 14
unfolding counts_text
counts_length end d k =
    omega (
      arith,
      length-append (number_text (one end) 32 ++ number_text d 32) (number_text k 10),
      length-append (number_text (one end) 32) (number_text d 32),
      number_length (one end) 32,
      number_length d 32,
      number_length k 10,
      end_length end,
      decimal_length d,
      decimal_length k,
    )

pub line_length : (n : ℕ) (a : Answer) → length (line_of n a) ≤ 34
unfolding line_of
line_length n a =
    omega (
      arith,
      length-append (head_text n a.verdict ++ event_text a.event a.byte)
          (counts_text a.end a.dropped a.broken),
      length-append (head_text n a.verdict) (event_text a.event a.byte),
      head_length n a.verdict,
      event_length a.event a.byte,
      counts_length a.end a.dropped a.broken,
    )
