mod Works
mod WorkerCounts
mod Refusals
mod Sharing
mod Known
