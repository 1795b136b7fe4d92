-- Firings some blocks later: what holds one of them back is the same in each block.
use Rattle.std.proofs.Common.{◌≡◌, ℕ, zero, suc, ◌+◌, ◌*◌, ◌/◌, ◌%◌, ◌<◌, inl, inr, sym, ap, ◌∙◌}
use Rattle.std.proofs.Common.{arith}
use Rattle.std.proofs.lemmas.Nat.{div-add-mod', mod_below}
use Rattle.sdf_prec.specs.declared.firing.Firing.{Firing}
use Rattle.sdf_prec.specs.Precedence.{WaitsFor}
use Rattle.sdf_prec.specs.Tables.{IsOfBlock}
use Rattle.sdf_times.specs.SelfTimed.{Plan, later, IsAt, IsSooner, IsAheadOf, WaitsForRoom, HoldsBack, IsPlan}
use Rattle.sdf_times.specs.SelfTimed.{Leads, here, on}

module _ (p : Plan) where
  pub later_none : (f : Firing) → later p 0 f ≡ f
  later_none f = let e : 0 * p.firings f.actor + f.number ≡ f.number = omega arith in
      λ i. record { actor = f.actor; number = e i }

  pub later_more : (b d : ℕ) (f : Firing) → later p b (later p d f) ≡ later p (d + b) f
  later_more b d f = let e : b * p.firings f.actor + (d * p.firings f.actor + f.number) ≡
      (d + b) * p.firings f.actor + f.number = omega arith in
      λ i. record { actor = f.actor; number = e i }

  pub later_same : (b d : ℕ) (f : Firing) → b ≡ d → later p b f ≡ later p d f
  later_same b d f e = ap (λ b. later p b f) e

  -- each firing is one of the block some blocks later
  pub split : (f : Firing) → f.actor < p.rates.actors → 0 < p.firings f.actor →
      (b : ℕ) × (g : Firing) × IsOfBlock p.rates p.firings g × (later p b g ≡ f)
  split f known some =
      let e : f.number / p.firings f.actor * p.firings f.actor + f.number % p.firings f.actor ≡ f.number =
      div-add-mod' f.number (p.firings f.actor) in (
        f.number / p.firings f.actor,
        record { actor = f.actor; number = f.number % p.firings f.actor },
        (known, mod_below f.number (p.firings f.actor) some),
        λ i. record { actor = f.actor; number = e i },
      )

module _ (p : Plan) (ok : IsPlan p) where
  -- what each block moves on a channel
  abbrev moved : ℕ → ℕ
  moved c = p.rates.produced c (p.firings (p.rates.source c))

  grows : (f : ℕ → ℕ) (n : ℕ) → ((i : ℕ) → f (i + n) ≡ f i + f n) → (b i : ℕ) → f (b * n + i) ≡ b * f n + f i
  grows f n anew zero i = let e : zero * n + i ≡ i = omega arith in ap f e ∙ omega arith
  grows f n anew (suc b) i =
      let more : suc b * n + i ≡ (b * n + i) + n = omega arith in
      let ih : f (b * n + i) ≡ b * f n + f i = grows f n anew b i in
      let next : f ((b * n + i) + n) ≡ f (b * n + i) + f n = anew (b * n + i) in
      let is : f (suc b * n + i) ≡ f ((b * n + i) + n) = ap f more in
      omega (arith, is, next, ih)

  pub put_later : (c b i a : ℕ) → c < p.rates.channels → p.rates.source c ≡ a →
      p.rates.produced c (b * p.firings a + i) ≡ b * moved c + p.rates.produced c i
  put_later c b i a l e =
      ap (λ a. p.rates.produced c (b * p.firings a + i)) (sym e)
      ∙ grows (p.rates.produced c) (p.firings (p.rates.source c)) (λ i. ok.period.produced_anew c i l) b i

  pub taken_later : (c b i a : ℕ) → c < p.rates.channels → p.rates.target c ≡ a →
      p.rates.consumed c (b * p.firings a + i) ≡ b * moved c + p.rates.consumed c i
  taken_later c b i a l e =
      ap (λ a. p.rates.consumed c (b * p.firings a + i)) (sym e)
      ∙ (grows (p.rates.consumed c) (p.firings (p.rates.target c)) (λ i. ok.period.consumed_anew c i l) b i
      ∙ ap (λ m. b * m + p.rates.consumed c i) (sym (ok.period.balanced c l)))

  -- the next firing
  pub taken_next : (c b i a : ℕ) → c < p.rates.channels → p.rates.target c ≡ a →
      p.rates.consumed c ((b * p.firings a + i) + 1) ≡ b * moved c + p.rates.consumed c (i + 1)
  taken_next c b i a l e = let next : (b * p.firings a + i) + 1 ≡ b * p.firings a + (i + 1) = omega arith in
      ap (p.rates.consumed c) next ∙ taken_later c b (i + 1) a l e

  pub put_next : (c b i a : ℕ) → c < p.rates.channels → p.rates.source c ≡ a →
      p.rates.produced c ((b * p.firings a + i) + 1) ≡ b * moved c + p.rates.produced c (i + 1)
  put_next c b i a l e = let next : (b * p.firings a + i) + 1 ≡ b * p.firings a + (i + 1) = omega arith in
      ap (p.rates.produced c) next ∙ put_later c b (i + 1) a l e

  pub waits_later : (b : ℕ) (f g : Firing) → WaitsFor p.rates f g → WaitsFor p.rates (later p b f) (later p b g)
  waits_later b f g (inl (same, next)) =
      let n : b * p.firings g.actor ≡ b * p.firings f.actor = ap (λ a. b * p.firings a) same in
      inl (same, omega arith)
  waits_later b f g (inr (c, l, into, from, low)) =
      let put = put_later c b g.number g.actor l from in
      let taken = taken_next c b f.number f.actor l into in
      inr (c, l, into, from, omega arith)

  pub waits_sooner : (b : ℕ) (f g : Firing) → WaitsFor p.rates (later p b f) (later p b g) → WaitsFor p.rates f g
  waits_sooner b f g (inl (same, next)) =
      let n : b * p.firings g.actor ≡ b * p.firings f.actor = ap (λ a. b * p.firings a) same in
      inl (same, omega arith)
  waits_sooner b f g (inr (c, l, into, from, low)) =
      let put = put_later c b g.number g.actor l from in
      let taken = taken_next c b f.number f.actor l into in
      inr (c, l, into, from, omega arith)

  pub room_later : (b : ℕ) (f g : Firing) → WaitsForRoom p f g → WaitsForRoom p (later p b f) (later p b g)
  room_later b f g (c, l, from, into, apart, low) =
      let put = put_next c b f.number f.actor l from in
      let taken = taken_later c b g.number g.actor l into in
      (c, l, from, into, apart, omega arith)

  pub room_sooner : (b : ℕ) (f g : Firing) → WaitsForRoom p (later p b f) (later p b g) → WaitsForRoom p f g
  room_sooner b f g (c, l, from, into, apart, low) =
      let put = put_next c b f.number f.actor l from in
      let taken = taken_later c b g.number g.actor l into in
      (c, l, from, into, apart, omega arith)

  pub at_later : (b d k j : ℕ) (f : Firing) → IsAt p d k j f → IsAt p (d + b) k j (later p b f)
  at_later b d k j f (g, at, is) = (g, at, sym (later_more p b d g) ∙ ap (later p b) is)

  pub ahead_later : (b : ℕ) (g f : Firing) → IsAheadOf p g f → IsAheadOf p (later p b g) (later p b f)
  ahead_later b g f (d, k, e, i, j, sooner, one, two) =
      (d + b, k, e + b, i, j, go sooner, at_later b d k j g one, at_later b e i j f two)
    where
      go : IsSooner d k e i → IsSooner (d + b) k (e + b) i
      go (inl low) = inl (omega arith)
      go (inr (same, low)) = inr (omega arith, low)

  pub holds_later : (b : ℕ) (g f : Firing) (w : ℕ) → HoldsBack p g f w → HoldsBack p (later p b g) (later p b f) w
  holds_later b g f w (inl (is, inl waits)) = inl (is, inl (waits_later b f g waits))
  holds_later b g f w (inl (is, inr ahead)) = inl (is, inr (ahead_later b g f ahead))
  holds_later b g f w (inr (is, room)) = inr (is, room_later b f g room)

  pub leads_later : (b : ℕ) (g f : Firing) (w : ℕ) → Leads p g f w → Leads p (later p b g) (later p b f) w
  leads_later b g _ _ here = here
  leads_later b g _ _ (on f h v w l known into holds) =
      on (later p b f) (later p b h) v w (leads_later b g f v l) known into (holds_later b f h w holds)
