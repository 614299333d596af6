-- What holds at each record of a run: the text so far stands in the buffer, and with the text of the records that are
-- left it is the whole.
-- Assumes nothing.
use mathlib.Core.Path.{◌≡◌, refl, sym, ap, ◌∙◌}
use mathlib.Core.List.{List, [], ◌∷◌, ◌++◌, append_assoc, append-nil}
use Prim.Native.Nat.{ℕ, ◌+◌, ◌*◌, ◌/◌, ◌^◌, ◌<◌, ◌≤◌}
use native.Mathlib.Omega.{arith}
use lib.ListN.{length}
use Rattle.bus.specs.declared.Bus.{Bus}
use Rattle.bus.specs.declared.Answer.{Answer}
use Rattle.bus.specs.Record.{no_parties}
use Rattle.reader.specs.Record.{Entry, records}
use Rattle.reader.proofs.Records.{records_length}
use Rattle.text.specs.Text.{Wrote, line_of}
use Rattle.text.proofs.Laws.{joined, same_size}
use Rattle.text.proofs.Lengths.{line_length}
use Rattle.run.specs.Run.{answer_to, text_from}

pub record Going (s out₀ out : List ℕ) (b : Bus) (left : List Entry) (n place : ℕ) : Type 0 where
  pub done : List ℕ
  pub wrote : Wrote out₀ 0 done out place
  pub rest : done ++ text_from b (n + 1) left ≡ text_from no_parties 1 (records s)
  pub number : n + length left < 2 ^ 64
  pub room : place + 34 * length left ≤ length out

pub start : (s out : List ℕ) (b : Bus) → b ≡ no_parties → length s < 2 ^ 64 → 34 * ((length s + 5) / 6) ≤ length out
    → Going s out out b (records s) 0 0
start s out b e k h =
    record {
      done = [];
      wrote = record { stored = refl; next = refl; fits = omega arith };
      rest = ap (λ (x : Bus). text_from x 1 (records s)) e;
      number = omega (arith, records_length s);
      room = omega (arith, records_length s);
    }

module _ {s out₀ out : List ℕ} {b : Bus} {left : List Entry} {n place : ℕ} (g : Going s out₀ out b left n place) where
  pub again : {out' : List ℕ} {place' : ℕ} (r : Entry) (rs : List Entry) (a : Answer) → left ≡ r ∷ rs
      → a ≡ answer_to b r → (place + 34 ≤ length out → Wrote out place (line_of (n + 1) a) out' place')
      → Going s out₀ out' a.bus rs (n + 1) place'
  unfolding text_from
  again {out'} {place'} r rs a e f put =
      let l : length left ≡ length (r ∷ rs) = ap length e in
      let w = put (omega (arith, g.room)) in
      record {
        done = g.done ++ line_of (n + 1) a;
        wrote = joined g.wrote w;
        rest = append_assoc g.done (line_of (n + 1) a) (text_from a.bus (n + 1 + 1) rs)
            ∙ (rw f (ap (λ (es : List Entry). g.done ++ text_from b (n + 1) es) (sym e)) ∙ g.rest);
        number = omega (arith, l, g.number);
        room = omega (arith, l, g.room, w.next, line_length (n + 1) a, same_size w);
      }

  pub ends : left ≡ [] → Wrote out₀ 0 (text_from no_parties 1 (records s)) out place
  unfolding text_from
  ends h =
      let e : g.done ≡ text_from no_parties 1 (records s) = sym (append-nil g.done)
      ∙ (ap (λ (es : List Entry). g.done ++ text_from b (n + 1) es) (sym h) ∙ g.rest) in
      rw e at g.wrote
