-- tests of numbers and of Booleans, as what they say
pub mod Tests
-- sums, products and quotients of numbers
pub mod Numbers
-- signed numbers: how they are written and read back, how they compare
pub mod Integers
-- what options and results hold
pub mod Options
-- texts of bytes that are equal
pub mod Bytes
-- members of lists, of filters and of images, and what a search finds
pub mod Members
-- members of a list into which one is inserted
pub mod Inserted
-- what holds of every item of a list
pub mod Every
-- what stands at the places of a list
pub mod Places
-- the first and the last items of lists, and what is written over
pub mod Slices
-- a list that stands in another
pub mod Parts
-- images of lists, and lists with their numbers
pub mod Images
-- two lists, item by item
pub mod Zips
-- what stands at one place of two lists
pub mod TwoLists
-- numbers in order, and their images
pub mod Ranges
-- the first item that passes a test, and whether any or all do
pub mod Searches
-- how often a number stands in a list, and how many items pass a test
pub mod Counts
-- sums of lists
pub mod Sums
-- the greatest and the least of numbers
pub mod Greatest
-- lists of which no two items are equal
pub mod Distinct
-- numbers of which each is above the one before it
pub mod Increasing
-- numbers that don't fall, told by how often each stands among them
pub mod Rising
