-- Reading fields and laying an event out are inverse to each other. Assumes nothing.
use Rattle.std.specs.Prelude.{ℕ, ◌<◌, ◌≡◌, refl, Bool, true, false, cond}
use Rattle.std.proofs.Common.{arith, sym, ap, subst, lt-ltb, ltb-true, eqb-true}
use Rattle.sets.proofs.laws.Bools.{and_yes}
use Rattle.events.specs.declared.Fields.{Fields}
use Rattle.events.specs.declared.Event.{Event}
use Rattle.events.specs.declared.Event.TheVariants.{Skip, Produce, Forward, Subscribe, Unsubscribe, Leave, Join}
use Rattle.events.specs.Event.{Reading, taken, no_more, no_sets, no_message, skip_ok, pair_ok, topics_ok, leave_ok, join_ok, or_seven, decode_of}
use Rattle.events.specs.Writing.{fields_mk, fields_of}
use Rattle.events.specs.Fits.{EventFits}
use Rattle.events.specs.laws.Fits.{Small}

-- fields are equal when each is
pub fields_path : (f g : Fields) → f.code ≡ g.code → f.peer ≡ g.peer → f.message ≡ g.message → f.zero ≡ g.zero
    → f.subs ≡ g.subs → f.pubs ≡ g.pubs → f.neighbours ≡ g.neighbours → f ≡ g
fields_path f g a b c d p q r =
    λ i. record { code = a i; peer = b i; message = c i; zero = d i; subs = p i; pubs = q i; neighbours = r i }

-- an event that fits is read from its own fields
pub decode_fields : (e : Event) → EventFits e → decode_of (fields_of e) ≡ taken e
unfolding EventFits fields_of decode_of or_seven skip_ok pair_ok topics_ok leave_ok join_ok no_message no_sets no_more
decode_fields Skip h = refl
decode_fields (Produce p m) h = simp (lt-ltb _ _ h.0, lt-ltb _ _ h.1)
decode_fields (Forward p m) h = simp (lt-ltb _ _ h.0, lt-ltb _ _ h.1)
decode_fields (Subscribe p t) h = simp (lt-ltb _ _ h.0)
decode_fields (Unsubscribe p t) h = simp (lt-ltb _ _ h.0)
decode_fields (Leave p) h = simp (lt-ltb _ _ h)
decode_fields (Join p j) h = simp (lt-ltb _ _ h.0)

-- what is known of fields that gave an event: they are the event's own, and peer and message are small
pub record Gave (f : Fields) (e : Event) : Type 0 where
  pub fields : fields_of e ≡ f
  pub small : Small e

-- one case of the code at a time: the test held, or the later cases gave the event
pick_taken : (P : Type 0) (b : Bool) (x y : Reading) (e : Event) → (b ≡ true → x ≡ taken e → P) → (y ≡ taken e → P) → cond b x y ≡ taken e → P
pick_taken P true x y e f g h = f refl h
pick_taken P false x y e f g h = g h

-- an event came through the test of 7
seven_taken : (b : Bool) (d e : Event) → or_seven b d ≡ taken e → (b ≡ true) × (d ≡ e)
unfolding or_seven
seven_taken true d e h = (refl, ap (λ (r : Reading). r.event) h)
seven_taken false d e h = absurd (omega (arith, ap (λ (r : Reading). r.number) h))

-- the tests of unused fields, as equations
no_more_yes : (f : Fields) → no_more f ≡ true → (f.pubs ≡ 0) × (f.neighbours ≡ 0)
unfolding no_more
no_more_yes f h = let a = and_yes _ _ h in (eqb-true _ _ a.0, eqb-true _ _ a.1)

no_sets_yes : (f : Fields) → no_sets f ≡ true → (f.subs ≡ 0) × (f.pubs ≡ 0) × (f.neighbours ≡ 0)
unfolding no_sets
no_sets_yes f h =
    let a = and_yes _ _ h in
    let b = no_more_yes f a.1 in
    (eqb-true _ _ a.0, b.0, b.1)

no_message_yes : (f : Fields) → no_message f ≡ true → (f.message ≡ 0) × (f.zero ≡ 0)
unfolding no_message
no_message_yes f h = let a = and_yes _ _ h in (eqb-true _ _ a.0, eqb-true _ _ a.1)

-- a kind whose test held: peer and message are small, and its fields are those that laying out makes, at its code k
skip_yes : (f : Fields) → f.code ≡ 0 → skip_ok f ≡ true → fields_mk 0 0 0 0 0 0 ≡ f
unfolding skip_ok
skip_yes f k h =
    let a = and_yes _ _ h in
    let b = and_yes _ _ a.1 in
    let m = no_message_yes f b.0 in
    let s = no_sets_yes f b.1 in
    fields_path _ f (sym k) (sym (eqb-true _ _ a.0)) (sym m.0) (sym m.1) (sym s.0) (sym s.1) (sym s.2)

pair_yes : (f : Fields) (k : ℕ) → f.code ≡ k → pair_ok f ≡ true
    → (f.peer < 32) × (f.message < 64) × (fields_mk k f.peer f.message 0 0 0 ≡ f)
unfolding pair_ok
pair_yes f k c h =
    let a = and_yes _ _ h in
    let b = and_yes _ _ a.1 in
    let d = and_yes _ _ b.1 in
    let s = no_sets_yes f d.1 in
    (ltb-true _ _ a.0, ltb-true _ _ b.0, fields_path _ f (sym c) refl refl (sym (eqb-true _ _ d.0)) (sym s.0) (sym s.1) (sym s.2))

topics_yes : (f : Fields) (k : ℕ) → f.code ≡ k → topics_ok f ≡ true → (f.peer < 32) × (fields_mk k f.peer 0 f.subs 0 0 ≡ f)
unfolding topics_ok
topics_yes f k c h =
    let a = and_yes _ _ h in
    let b = and_yes _ _ a.1 in
    let m = no_message_yes f b.0 in
    let s = no_more_yes f b.1 in
    (ltb-true _ _ a.0, fields_path _ f (sym c) refl (sym m.0) (sym m.1) refl (sym s.0) (sym s.1))

leave_yes : (f : Fields) → f.code ≡ 5 → leave_ok f ≡ true → (f.peer < 32) × (fields_mk 5 f.peer 0 0 0 0 ≡ f)
unfolding leave_ok
leave_yes f c h =
    let a = and_yes _ _ h in
    let b = and_yes _ _ a.1 in
    let m = no_message_yes f b.0 in
    let s = no_sets_yes f b.1 in
    (ltb-true _ _ a.0, fields_path _ f (sym c) refl (sym m.0) (sym m.1) (sym s.0) (sym s.1) (sym s.2))

join_yes : (f : Fields) → f.code ≡ 6 → join_ok f ≡ true → (f.peer < 32) × (fields_mk 6 f.peer 0 f.subs f.pubs f.neighbours ≡ f)
unfolding join_ok
join_yes f c h =
    let a = and_yes _ _ h in
    let m = no_message_yes f a.1 in
    (ltb-true _ _ a.0, fields_path _ f (sym c) refl (sym m.0) (sym m.1) refl refl refl)

-- an event d that passed its test, and is e
gives : (f : Fields) (b : Bool) (d e : Event) → or_seven b d ≡ taken e → (b ≡ true → Gave f d) → Gave f e
gives f b d e h g =
    let t = seven_taken b d e h in
    subst (λ (x : Event). Gave f x) t.1 (g t.0)

-- Fields that are read as an event are the event's own, and the event's peer and message are small.
pub decode_gave : (f : Fields) (e : Event) → decode_of f ≡ taken e → Gave f e
unfolding decode_of fields_of Small
decode_gave f e =
    pick_taken (Gave f e) _ _ _ e (λ k h. gives f _ _ e h (λ t. record { fields = skip_yes f (eqb-true _ _ k) t; small = tt }))
    (pick_taken (Gave f e) _ _ _ e (λ k h. gives f _ _ e h (λ t. let y = pair_yes f 1 (eqb-true _ _ k) t in record { fields = y.2; small = (y.0, y.1) }))
    (pick_taken (Gave f e) _ _ _ e (λ k h. gives f _ _ e h (λ t. let y = pair_yes f 2 (eqb-true _ _ k) t in record { fields = y.2; small = (y.0, y.1) }))
    (pick_taken (Gave f e) _ _ _ e (λ k h. gives f _ _ e h (λ t. let y = topics_yes f 3 (eqb-true _ _ k) t in record { fields = y.1; small = y.0 }))
    (pick_taken (Gave f e) _ _ _ e (λ k h. gives f _ _ e h (λ t. let y = topics_yes f 4 (eqb-true _ _ k) t in record { fields = y.1; small = y.0 }))
    (pick_taken (Gave f e) _ _ _ e (λ k h. gives f _ _ e h (λ t. let y = leave_yes f (eqb-true _ _ k) t in record { fields = y.1; small = y.0 }))
    (pick_taken (Gave f e) _ _ _ e (λ k h. gives f _ _ e h (λ t. let y = join_yes f (eqb-true _ _ k) t in record { fields = y.1; small = y.0 }))
    (λ h. absurd (omega (arith, ap (λ (r : Reading). r.number) h)))))))))
