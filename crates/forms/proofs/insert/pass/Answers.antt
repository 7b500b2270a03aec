use Rattle.std.proofs.Common.{◌-◌, length, refl, ◌∙◌, arith}
use Rattle.forms.proofs.Inserts.{inserting_none, inserting_zeros, inserting_same, inserting_more, inserted}
use Rattle.forms.proofs.insert.pass.Goals as goal

pub places-init : goal.places-init
places-init c = inserting_none 32 (length c.args.row.now) c.args.table.now c.args.row.now c.args.changed.now refl (λ i. (c.type_inv.table i).fits) (λ i. (c.type_inv.row i).fits)

pub places-preserved-then-insert_at : goal.places-preserved-then-insert_at
places-preserved-then-insert_at c =
    inserting_more 32 (length c.args.row.now) _ _ c.places.table _ _ c.places.count (c.places.auto.table ∙ c.requires.room)
    (c.loop-k.k - 1) c.places.done _ c.places.row _ c.places.auto.row (omega arith) (λ j a b. c.loop-k.invariant j (omega arith) b) c.places.invariant
    c.insert_at.auto.table _ (rw c.places.auto.row at c.insert_at.ensures) (λ i. (c.type_inv.table i).fits, λ i. (c.type_inv.row i).fits) c.if-insert_at.true (omega arith)

pub places-preserved : goal.places-preserved
places-preserved c =
    inserting_same 32 (length c.args.row.now) _ _ c.places.table _ _ c.places.count (c.places.auto.table ∙ c.requires.room)
    (c.loop-k.k - 1) c.places.done _ c.places.row _ c.places.auto.row (omega arith) (λ j a b. c.loop-k.invariant j (omega arith) b) c.places.invariant
    c.insert_at.auto.table _ (rw c.places.auto.row at c.insert_at.ensures) (λ i. (c.type_inv.table i).fits, λ i. (c.type_inv.row i).fits) c.if-insert_at.false

pub returns : goal.returns
returns c =
    inserted 32 (length c.args.row.now) _ _ _ c.places.row _ _ _
    (inserting_zeros 32 (length c.args.row.now) _ _ c.places.table _ _ c.places.count (c.places.auto.table ∙ c.requires.room)
    0 c.places.done c.places.row c.places.auto.row (omega arith) (λ j a b. c.loop-k.invariant j (omega arith) b) c.places.invariant)
