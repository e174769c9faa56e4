use Rattle.std.proofs.Common.{◌≡◌, ◌∙◌, ◌<◌, ◌≤◌, ◌*◌, ◌^◌, ℕ, List, [], ◌∷◌, Option, length, map, fold, max, ap, refl, sym, arith}
use Rattle.std.proofs.lemmas.List.{length-map}
use Rattle.design_model.specs.Netlist.{Netlist}
use Rattle.feed_cells.specs.Fed.{Fed, IsFed, cells_in, fed_from, fed_rows, item_width, items_width, seats_in}
use Rattle.feed_cells.specs.declared.fed.Item.{Item}
use Rattle.feed_cells.specs.declared.fed.Item.TheVariants.{Cell, Feed}
use Rattle.feed_cells.proofs.FedWidths.{width-cons}
use Rattle.channel_stack.specs.Stack.{LaidOut, laid_of, stack_of}
use Rattle.greedy_router.specs.declared.sweep.Routed.{Routed}
use Rattle.layout_report.specs.declared.summary.ChannelLine.{ChannelLine}
use Rattle.layout_report.specs.declared.summary.Taken.{Taken}
use Rattle.command_jobs.specs.Job.{Job}
use Rattle.command_jobs.specs.Summarized.{cost_for, feeds_at, feeds_in, feeds_of, line_of_channel, summary_of, summary_with, taken_among}
use Rattle.command_jobs.specs.Text.{rows_with_feeds, wirings_of}
use Rattle.std_laws.proofs.Greatest.{greatest-first}

feed-width : (d : Netlist) (item : Item) → feeds_at item ≤ item_width d item
feed-width d (Cell seat) = omega arith
feed-width d (Feed net) = omega arith

-- a row has no more feeds than columns
feeds-width : (d : Netlist) (items : List Item) → feeds_of items ≤ items_width d items
feeds-width d [] = omega arith
feeds-width d (item ∷ items) = omega (arith, width-cons d item items, feed-width d item, feeds-width d items)

-- and rows no more than as many times the widest as there are
rows-width : (d : Netlist) (rows : List (List Item)) (a : ℕ) → fold max a (map (items_width d) rows) ≤ 4000000
    → feeds_in rows ≤ length rows * 4000000
rows-width d [] a few = omega arith
rows-width d (items ∷ rows) a few =
    let above : max a (items_width d items) ≤ fold max (max a (items_width d items)) (map (items_width d) rows) = greatest-first (max a (items_width d items)) (map (items_width d) rows) in
    let rest : feeds_in rows ≤ length rows * 4000000 = rows-width d rows (max a (items_width d items)) few in
    omega (arith, feeds-width d items)

fed-width : (d : Netlist) (fed : Fed) → fed ≡ fed_rows d (cells_in fed.rows) → fed.width ≡ fold max 0 (map (items_width d) fed.rows)
unfolding fed_rows
fed-width d fed is =
    let width : fed.width ≡ fold max 0 (map (items_width d) (fed_from d (cells_in fed.rows) 0 (cells_in fed.rows))) = ap (λ (f : Fed). f.width) is in
    let made : fed.rows ≡ fed_from d (cells_in fed.rows) 0 (cells_in fed.rows) = ap (λ (f : Fed). f.rows) is in
    width ∙ ap (λ (l : List (List Item)). fold max 0 (map (items_width d) l)) (sym made)

-- rows with feeds are few
pub rows-few : (d : Netlist) (fed : Fed) → IsFed d fed → length fed.rows ≤ 514
rows-few d fed is = let same : length (cells_in fed.rows) ≡ length fed.rows = length-map fed.rows seats_in in omega (arith, is.placed.few)

pub feeds-few : (d : Netlist) (fed : Fed) → IsFed d fed → fed.width ≤ 4000000 → feeds_in fed.rows < 2 ^ 64
feeds-few d fed is narrow =
    let wide : fed.width ≡ fold max 0 (map (items_width d) fed.rows) = fed-width d fed is.is in
    let all : feeds_in fed.rows ≤ length fed.rows * 4000000 = rows-width d fed.rows 0 (omega arith) in
    omega (arith, rows-few d fed is)

-- a layout in short is that of its job
pub summary-from : (job : Job) (fed : Fed) (cost : ℕ) (kept : List Routed) (channels : List ChannelLine) (laid : LaidOut) (taken : Option Taken)
    → fed ≡ rows_with_feeds job → cost ≡ cost_for job → channels ≡ map (line_of_channel fed.width) kept
    → laid ≡ laid_of (stack_of job.rules job.drawn.design fed (wirings_of kept)) → taken ≡ taken_among job.tries job.rows job.seed
    → summary_with job.drawn.design fed cost channels laid taken ≡ summary_of job kept
unfolding summary_of
summary-from job fed cost kept channels laid taken fed_is cost_is channels_are laid_is taken_is = rw (channels_are, laid_is, taken_is, cost_is, fed_is) refl
