-- What the loops of a worker make.
use Rattle.std.proofs.Common.{◌≡◌, ℕ, suc, Bool, true, false, List, [], ◌++◌, refl, sym, ◌∙◌, ap, subst, append-nil, append_assoc, true≢false, None}
use Rattle.mal_hall.specs.Desks.{DeskCall}
use Rattle.mal_pool.specs.Gates.{Stops}
use Rattle.mal_pool.specs.Making.{HasLooped}
use Rattle.mal_pool.specs.Parts.{AreLoops, by_test, is_idle, is_stop}
use Rattle.mal_pool.specs.Works.{Works}
use Rattle.mal_pool.specs.declared.working.End.{End}
use Rattle.mal_pool.specs.declared.working.End.TheVariants as ends

went-on : (b : Bool) (P Q : Type 0) → b ≡ true → P → by_test b P Q
went-on true P Q e p = p
went-on false P Q e p = absurd (true≢false (sym e))

ended : (b : Bool) (P Q : Type 0) → b ≡ false → Q → by_test b P Q
ended true P Q e q = absurd (true≢false e)
ended false P Q e q = q

-- before the first loop nothing is made
pub none-looped : (stops : Stops) (w turns loops left : ℕ) (calls : List DeskCall) → left ≡ loops → HasLooped stops w turns loops left calls calls
none-looped stops w turns loops left calls all = record { mine = []; calls = sym (append-nil calls); goes = λ rest stopped h. subst (λ (n : ℕ). AreLoops stops w turns n rest stopped) all h }

-- one loop more, which ended idle
pub looped-more : (stops : Stops) (w turns loops left rest : ℕ) (before now after : List DeskCall) (end : End) → left ≡ suc rest → HasLooped stops w turns loops left before now → (one : List DeskCall) × (after ≡ now ++ one) × Works stops w turns 0 None one end → is_idle end ≡ true → HasLooped stops w turns loops rest before after
unfolding AreLoops
looped-more stops w turns loops left rest before now after end more m (one, grown, works) idle = record {
  mine = m.mine ++ one;
  calls = grown ∙ (ap (λ (cs : List DeskCall). cs ++ one) m.calls ∙ append_assoc before m.mine one);
  goes = λ later stopped h.
      subst (λ (cs : List DeskCall). AreLoops stops w turns loops cs stopped) (sym (append_assoc m.mine one later))
      (m.goes (one ++ later) stopped (subst (λ (n : ℕ). AreLoops stops w turns n (one ++ later) stopped) (sym more) (one, later, end, refl, works, went-on (is_idle end) _ _ idle h)));
}

-- the loops end
pub looped-last : (stops : Stops) (w turns loops left rest : ℕ) (before now after : List DeskCall) (end : End) (stopped : Bool) → left ≡ suc rest → HasLooped stops w turns loops left before now → (one : List DeskCall) × (after ≡ now ++ one) × Works stops w turns 0 None one end → is_idle end ≡ false → stopped ≡ is_stop end → (mine : List DeskCall) × (after ≡ before ++ mine) × AreLoops stops w turns loops mine stopped
unfolding AreLoops
looped-last stops w turns loops left rest before now after end stopped more m (one, grown, works) last is = (
  m.mine ++ one,
  grown ∙ (ap (λ (cs : List DeskCall). cs ++ one) m.calls ∙ append_assoc before m.mine one),
  m.goes one stopped (subst (λ (n : ℕ). AreLoops stops w turns n one stopped) (sym more) (one, [], end, sym (append-nil one), works, ended (is_idle end) _ _ last (refl, is))),
)

-- no loop is left
pub looped-out : (stops : Stops) (w turns loops left : ℕ) (before now : List DeskCall) (stopped : Bool) → left ≡ 0 → HasLooped stops w turns loops left before now → stopped ≡ false → (mine : List DeskCall) × (now ≡ before ++ mine) × AreLoops stops w turns loops mine stopped
unfolding AreLoops
looped-out stops w turns loops left before now stopped none m unstopped = (
  m.mine,
  m.calls,
  subst (λ (cs : List DeskCall). AreLoops stops w turns loops cs stopped) (append-nil m.mine) (m.goes [] stopped (subst (λ (n : ℕ). AreLoops stops w turns n [] stopped) (sym none) (refl, unstopped))),
)

-- a loop that ended where the gate stopped its worker ended so
pub stop-ended : (end : End) → is_stop end ≡ true → end ≡ ends.Stopped
stop-ended ends.AllDone e = absurd (true≢false (sym e))
stop-ended ends.Idle e = absurd (true≢false (sym e))
stop-ended ends.Spent e = absurd (true≢false (sym e))
stop-ended ends.Busy e = absurd (true≢false (sym e))
stop-ended ends.Strange e = absurd (true≢false (sym e))
stop-ended ends.Stopped e = refl
stop-ended ends.OutOfMemory e = absurd (true≢false (sym e))
