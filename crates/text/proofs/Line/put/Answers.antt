use Rattle.std.proofs.Common.{◌≡◌, refl, ap, ◌∙◌, arith, rules, ℕ, ◌+◌, ◌<◌, ◌≤◌, List, length, take, set, get_or}
use lib.Seq.{sets, take_all, length-sets}
use Rattle.text.proofs.Laws.{sets_more}
use Rattle.text.proofs.Line.put.Goals as goal

pub loop-i-init : goal.loop-i-init
loop-i-init c = (refl, refl, refl)

pub overflow_add-self : goal.overflow_add-self
overflow_add-self c = let r = c.requires.fits in let e = c.loop-i.invariant.0 in search rules

pub bounds-self-self : goal.bounds-self-self
bounds-self-self c =
    let l = c.args.self.now in
    let size : length c.loop-i.self.out.now ≡ length l.out.now = ap length c.loop-i.invariant.1
    ∙ length-sets l.out.now l.at (take c.loop-i.i c.args.text.now) in
    omega (arith, size, c.loop-i.invariant.0, c.requires.fits, c.loop-i-test.true)

pub loop-i-preserved : goal.loop-i-preserved
loop-i-preserved c =
    let l = c.args.self.now in
    let i = c.loop-i.i in
    let t = c.args.text.now in
    let v = c.loop-i.invariant in (
      v.0,
      ap (λ (at : ℕ). set c.loop-i.self.out.now (at + i) (get_or t i 0)) v.0
          ∙ ap (λ (o : List ℕ). set o (l.at + i) (get_or t i 0)) v.1
          ∙ sets_more l.out.now t l.at i c.loop-i-test.true,
      v.2,
    )

pub overflow_add-self-2 : goal.overflow_add-self-2
overflow_add-self-2 c = let r = c.requires.fits in let e = c.loop-i.invariant.0 in search rules

pub returns : goal.returns
returns c =
    let l = c.args.self.now in
    let t = c.args.text.now in
    let v = c.loop-i.invariant in
    let whole : take c.loop-i.i t ≡ t = take_all c.loop-i.i t (omega (arith, c.loop-i-test.false)) in
    let e : c.loop-i.self.out.now ≡ sets l.out.now l.at t = v.1 ∙ ap (sets l.out.now l.at) whole in
    record {
      wrote = record {
        stored = e;
        next = ap (λ (at : ℕ). at + length t) v.0;
        fits = omega (arith, ap length e, length-sets l.out.now l.at t, v.0, c.requires.fits);
      };
      same = v.2;
    }
