mod Counts
mod Faulty
mod Walks
