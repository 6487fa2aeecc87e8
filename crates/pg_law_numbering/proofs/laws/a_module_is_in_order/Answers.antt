use Rattle.pg_law_numbering.proofs.laws.a_module_is_in_order.Goals as goal

pub returns : goal.returns
returns c = λ text m module_is. record { endings = c.a_module_ends_its_blocks.ensures text m module_is; names = c.a_module_orders_its_names.ensures text m module_is }
